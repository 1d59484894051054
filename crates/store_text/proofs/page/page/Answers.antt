-- `store_text::page::page` meets its contract. Assumes nothing.
use Rattle.std.proofs.Common.{get_or, arith}
use Rattle.ledger_totals.proofs.Point.{after_room}
use Rattle.store_text.specs.Page.{board_text, page_of}
use Rattle.text_out.proofs.Added.{adds_3}
use Rattle.store_text.proofs.Laid.{length_laid}
use Rattle.store_text.proofs.Fits.{length_page_head, length_board, length_page_end}
use Rattle.store_text.proofs.page.page.Goals as goal

pub boards-b-requires : goal.boards-b-requires
boards-b-requires c =
    let a = c.args in
    let s = a.summary.now in
    let p = after_room 1000 261144 c.page_head-a.ensures (length_page_head a.form (get_or s 0 0) (get_or s 1 0))
    (omega (arith, c.requires.1)) in
    (c.requires.0, omega (arith, p))

pub returns : goal.returns
unfolding page_of
returns c =
    let a = c.args in
    let s = a.summary.now in
    adds_3 c.page_head-a.ensures
    c.boards-b.ensures c.page_end.ensures
    (omega (
      arith,
      length_page_head a.form (get_or s 0 0) (get_or s 1 0),
      length_laid 12 17074 (board_text a.form s) (length_board a.form s),
      length_page_end a.form,
      c.requires.1,
    ))
