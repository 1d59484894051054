-- `store_text::page::square` meets its contract. Assumes nothing.
use Rattle.std.proofs.Common.{arith}
use Rattle.ledger_totals.proofs.Point.{after_room}
use Rattle.store_text.specs.Page.{square_shown}
use Rattle.text_out.proofs.Added.{adds_3}
use Rattle.store_text.proofs.Fits.{length_before, length_square_word, length_row_end}
use Rattle.store_text.proofs.page.square.Goals as goal

pub square_word-b-requires : goal.square_word-b-requires
square_word-b-requires c =
    let a = c.args in let p =
    after_room 66 194 c.rank_before-a.ensures (length_before a.form a.i)
    c.requires.room in
    record { within = c.requires.within; room = omega (arith, p) }

pub returns : goal.returns
unfolding square_shown
returns c =
    let a = c.args in
    adds_3 c.rank_before-a.ensures
    c.square_word-b.ensures c.row_end.ensures
    (omega (
      arith,
      length_before a.form a.i,
      length_square_word a.form a.most a.n a.i,
      length_row_end a.i,
      c.requires.room,
    ))
