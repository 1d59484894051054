-- `store_text::picture::count` meets its contract. Assumes nothing.
use Rattle.std.proofs.Common.{ℕ, ◌+◌, ap, arith}
use Rattle.text_in.specs.Text.{text}
use Rattle.text_out.proofs.Added.{adds_4}
use Rattle.ledger_totals.proofs.Fits.{length_named}
use Rattle.ledger_totals.proofs.Point.{after_room}
use Rattle.store_text.specs.Picture.{across_at, down_at, numbered, count_drawn}
use Rattle.store_text.proofs.Laid.{by_text}
use Rattle.store_text.proofs.picture.count.Goals as goal

pub named-b-requires : goal.named-b-requires
named-b-requires c =
    let p = after_room 29 54 c.named-a.ensures
    (length_named (text "<text x='") (c.across.result + 24))
    c.requires.room in omega (arith, p)

pub named-c-requires : goal.named-c-requires
named-c-requires c =
    let p = after_room 29 54 c.named-a.ensures
    (length_named (text "<text x='") (c.across.result
    + 24)) c.requires.room in
    let q = after_room 25 29 c.named-b.ensures
    (length_named (text "' y='") (c.down.result + 29)) p in omega (arith, q)

pub returns : goal.returns
unfolding count_drawn
returns c =
    let a = c.args in
    let x = length_named (text "<text x='") (across_at a.i + 24) in
    let y = length_named (text "' y='") (down_at a.i + 29) in
    let z = length_named (text "'>") a.n in
    adds_4 (by_text (ap (λ (k : ℕ). numbered (text "<text x='") (k + 24))
    c.across.ensures)
    c.named-a.ensures) (by_text (ap (λ (k : ℕ). numbered (text "' y='") (k + 29))
    c.down.ensures)
    c.named-b.ensures)
    c.named-c.ensures c.put.ensures
    (omega (
      arith,
      x,
      y,
      z,
      c.requires.room,
    ))
