-- `store_text::page::page_head` meets its contract. Assumes nothing.
use Rattle.std.proofs.Common.{arith}
use Rattle.text_in.specs.Text.{text}
use Rattle.text_out.proofs.Added.{adds_4}
use Rattle.ledger_totals.proofs.Fits.{length_named}
use Rattle.ledger_totals.proofs.Point.{after_room}
use Rattle.store_text.specs.Page.{page_head}
use Rattle.store_text.proofs.Fits.{length_begin, length_words}
use Rattle.store_text.proofs.page.page_head.Goals as goal

pub named-b-requires : goal.named-b-requires
named-b-requires c =
    let p = after_room 410 590 c.page_begin-a.ensures
    (length_begin c.args.form)
    (omega (arith, c.requires)) in omega (arith, p)

pub named-c-requires : goal.named-c-requires
named-c-requires c =
    let p = after_room 410 590 c.page_begin-a.ensures
    (length_begin c.args.form)
    (omega (arith, c.requires)) in
    let q = after_room 28 562 c.named-b.ensures
    (length_named (text "records ")
    c.args.records) p in omega (arith, q)

pub returns : goal.returns
unfolding page_head
returns c =
    let a = c.args in
    adds_4 c.page_begin-a.ensures c.named-b.ensures
    c.named-c.ensures c.words_end.ensures
    (omega (
      arith,
      length_begin a.form,
      length_named (text "records ") a.records,
      length_named (text " half points ") a.points,
      length_words a.form,
      c.requires,
    ))
