-- `score_material::inner::number` meets its contract. Assumes nothing.
use mathlib.Core.Path.{ap, ◌∙◌}
use Prim.Native.Nat.{ℕ}
use Rattle.bits.specs.Bitboard.{has, how_many}
use Rattle.score_material.proofs.Pieces.{count_of}
use Rattle.score_material.proofs.inner.number.Goals as goal

pub returns : goal.returns
returns c =
    let a = c.args in
    c.count.ensures ∙ ap (λ (b : ℕ). how_many 64 (has b)) c.standing.ensures ∙ count_of a.bitboards.now a.kind a.color
