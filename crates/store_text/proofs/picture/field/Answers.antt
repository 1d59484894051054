-- `store_text::picture::field` meets its contract. Assumes nothing.
use Rattle.std.proofs.Common.{ap, arith}
use Rattle.text_in.specs.Text.{text}
use Rattle.text_out.proofs.Added.{adds_4}
use Rattle.ledger_totals.proofs.Fits.{length_named}
use Rattle.ledger_totals.proofs.Point.{after_room}
use Rattle.store_text.specs.Picture.{darkness, across_at, down_at, numbered, square_drawn}
use Rattle.store_text.proofs.Laid.{by_text}
use Rattle.store_text.proofs.picture.field.Goals as goal

pub named-b-requires : goal.named-b-requires
named-b-requires c =
    let p = after_room 29 81 c.named-a.ensures
    (length_named (text "<rect x='") c.across.result)
    c.requires.room in omega (arith, p)

pub named-c-requires : goal.named-c-requires
named-c-requires c =
    let p = after_room 29 81 c.named-a.ensures
    (length_named (text "<rect x='")
    c.across.result)
    c.requires.room in
    let q = after_room 25 56 c.named-b.ensures
    (length_named (text "' y='") c.down.result) p in omega (arith, q)

pub returns : goal.returns
unfolding square_drawn
returns c =
    let a = c.args in
    let x = length_named (text "<rect x='") (across_at a.i) in
    let y = length_named (text "' y='") (down_at a.i) in
    let z = length_named (text "' width='48' height='48' class='h") (darkness a.most a.n) in
    adds_4 (by_text (ap (numbered (text "<rect x='"))
    c.across.ensures)
    c.named-a.ensures) (by_text (ap (numbered (text "' y='"))
    c.down.ensures)
    c.named-b.ensures)
    (by_text (ap (numbered (text "' width='48' height='48' class='h"))
    c.dark.ensures)
    c.named-c.ensures) c.put.ensures
    (omega (
      arith,
      x,
      y,
      z,
      c.requires.room,
    ))
