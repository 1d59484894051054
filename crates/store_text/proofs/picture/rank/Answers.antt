-- `store_text::picture::rank` meets its contract. Assumes nothing.
use Rattle.std.proofs.Common.{ℕ, ◌+◌, ◌-◌, ◌/◌, ap, arith}
use Rattle.text_in.specs.Text.{text}
use Rattle.ledger_totals.proofs.Fits.{length_named}
use Rattle.ledger_totals.proofs.Point.{after_room}
use Rattle.store_text.specs.Picture.{down_at, numbered, rank_drawn}
use Rattle.text_out.proofs.Added.{adds_3}
use Rattle.store_text.proofs.Laid.{by_text}
use Rattle.store_text.proofs.picture.rank.Goals as goal

pub named-b-requires : goal.named-b-requires
named-b-requires c =
    let p = after_room 37 29 c.named-a.ensures
    (length_named (text "<text x='-14' y='") (c.down.result + 29))
    c.requires.room in omega (arith, p)

pub returns : goal.returns
unfolding rank_drawn
returns c =
    let a = c.args in
    let x = length_named (text "<text x='-14' y='") (down_at a.i + 29) in
    let y = length_named (text "'>") (8 - a.i / 8) in
    adds_3 (by_text (ap (λ (k : ℕ). numbered (text "<text x='-14' y='") (k + 29))
    c.down.ensures)
    c.named-a.ensures)
    (by_text (ap (numbered (text "'>")) c.wide.ensures)
    c.named-b.ensures)
    c.put.ensures
    (omega (
      arith,
      x,
      y,
      c.requires.room,
    ))
