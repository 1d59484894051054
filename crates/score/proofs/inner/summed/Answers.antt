-- `score::inner::summed` meets its contract. Assumes nothing.
use mathlib.Core.Path.{◌≡◌, ap, ap₂, sym, ◌∙◌}
use mathlib.Core.Bool.{Bool, cond}
use Prim.Native.Nat.{ℕ}
use borrow.Author.Tests.{eq-eqb, ne_eqb}
use Rattle.bits.specs.Bitboard.{has, how_many}
use Rattle.attack.specs.Attacks.{other}
use Rattle.score_taper.specs.Parts.{points_of}
use Rattle.score_taper.specs.declared.Side.{Side}
use Rattle.score_material.specs.Pieces.{pieces}
use Rattle.score_tally.specs.Sides.{side_of}
use Rattle.score_tally.specs.declared.Sides.{Sides}
use Rattle.score_material.proofs.Pieces.{pieces_of}
use Rattle.score_verdict.proofs.Verdicts.{white_moves, black_moves}
use Rattle.score.proofs.inner.summed.Goals as goal

-- the two sides, in the order of the side to move
white-first : (side : ℕ) → side ≡ 0 → 1 ≡ other side
white-first side e = sym (ap (λ (t : Bool). cond t 1 0) (eq-eqb side 0 e))

black-first : (side : ℕ) → (side ≡ 0 → ⊥) → 0 ≡ other side
black-first side n = sym (ap (λ (t : Bool). cond t 1 0) (ne_eqb side 0 n))

pub returns-then-side-eq-WHITE : goal.returns-then-side-eq-WHITE
returns-then-side-eq-WHITE c =
    let x-is : c.count-x.result ≡ pieces c.args.bitboards.now = c.count-x.ensures ∙ ap (λ (o : ℕ). how_many 64 (has o)) c.occupied.ensures ∙ pieces_of c.args.bitboards.now in
    let a = c.args in
    let brings : ℕ → Side = side_of a.bitboards.now in
    c.score.ensures
    ∙ ap₂ (λ (s : Sides) (x : ℕ). points_of s.white s.black x) c.tally-sides.ensures (x-is)
    ∙ ap₂ (λ (own them : ℕ). points_of (brings own) (brings them) (pieces a.bitboards.now)) (white_moves a.side c.if-side-eq-WHITE.true)
    (white-first a.side c.if-side-eq-WHITE.true)

pub returns : goal.returns
returns c =
    let x-is : c.count-x.result ≡ pieces c.args.bitboards.now = c.count-x.ensures ∙ ap (λ (o : ℕ). how_many 64 (has o)) c.occupied.ensures ∙ pieces_of c.args.bitboards.now in
    let a = c.args in
    let brings : ℕ → Side = side_of a.bitboards.now in
    c.score-2.ensures
    ∙ ap₂ (λ (s : Sides) (x : ℕ). points_of s.black s.white x) c.tally-sides.ensures (x-is)
    ∙ ap₂ (λ (own them : ℕ). points_of (brings own) (brings them) (pieces a.bitboards.now)) (black_moves a.side c.if-side-eq-WHITE.false)
    (black-first a.side c.if-side-eq-WHITE.false)
