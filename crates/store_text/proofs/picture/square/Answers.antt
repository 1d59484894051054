-- `store_text::picture::square` meets its contract. Assumes nothing.
use Rattle.std.proofs.Common.{arith}
use Rattle.text_out.proofs.Added.{adds_then}
use Rattle.ledger_totals.proofs.Point.{after_room}
use Rattle.store_text.proofs.Fits.{length_square, length_if_any}
use Rattle.store_text.proofs.picture.square.Goals as goal

pub count_if_any-requires : goal.count_if_any-requires
count_if_any-requires c =
    let a = c.args in
    record {
      within = c.requires.within;
      room =
          after_room 110 83 c.field-next.ensures (length_square a.most a.n a.i)
          c.requires.room;
    }

pub returns : goal.returns
returns c =
    let a = c.args in
    adds_then c.field-next.ensures c.count_if_any.ensures
    (omega (
      arith,
      length_square a.most a.n a.i,
      length_if_any a.n a.i,
      c.requires.room,
    ))
