-- `store_text::picture::board` meets its contract. Assumes nothing.
use Rattle.std.proofs.Common.{◌+◌, ◌*◌, ◌/◌, ◌%◌, ap, arith}
use Rattle.text_in.specs.Text.{text}
use Rattle.ledger_totals.proofs.Fits.{length_named}
use Rattle.ledger_totals.proofs.Point.{after_room}
use Rattle.store_text.specs.Picture.{numbered, board_at}
use Rattle.text_out.proofs.Added.{adds_3}
use Rattle.store_text.proofs.Laid.{by_text}
use Rattle.store_text.proofs.picture.board.Goals as goal

pub named-b-requires : goal.named-b-requires
named-b-requires c =
    let p = after_room 44 49 c.named-a.ensures
    (length_named (text "<g transform='translate(") c.wide.result)
    c.requires.1 in omega (arith, p)

pub returns : goal.returns
unfolding board_at
returns c =
    let a = c.args in
    let x = length_named (text "<g transform='translate(") (60 + 440 * (a.piece % 4)) in
    let y = length_named (text " ") (100 + 450 * (a.piece / 4)) in
    adds_3 (by_text (ap (numbered (text "<g transform='translate("))
    c.wide.ensures)
    c.named-a.ensures)
    (by_text (ap (numbered (text " ")) c.wide-2.ensures)
    c.named-b.ensures)
    c.put.ensures
    (omega (
      arith,
      x,
      y,
      c.requires.1,
    ))
