-- `trace_mobility::inner::one_by_one` meets its contract. The loop's invariant: what the squares of `rest` add to the sum makes the whole.
-- Assumes nothing.
use mathlib.Core.Path.{◌≡◌, refl, sym, ap, ◌∙◌}
use mathlib.Core.List.{[], ◌∷◌}
use Prim.Native.Nat.{ℕ, suc, ◌+◌, ◌*◌, ◌≤◌}
use native.Mathlib.Omega.{arith}
use lib.ListN.{length}
use Rattle.laws.specs.Sums.{counted}
use Rattle.laws.proofs.Sums.{counted_none, counted_one}
use Rattle.bits.specs.Bitboard.{has, how_many, squares}
use Rattle.bits.specs.Answers.{lowest}
use Rattle.bits.proofs.Counts.{many_le}
use Rattle.bits.proofs.Squares.{squares_le}
use Rattle.bits.proofs.Each.{next_at, next_fits, next_done}
use Rattle.attack.specs.Attacks.{attacks}
use Rattle.trace_mobility.proofs.Sums.{attacked_counted}
use Rattle.trace_mobility.proofs.inner.one_by_one.Invariants.{reach}
use Rattle.trace_mobility.proofs.inner.one_by_one.Goals as goal

pub loop-s-init : goal.loop-s-init
loop-s-init c = (c.ranges.pieces.fits, refl, omega (arith, squares_le c.args.pieces))

pub returns-in_default : goal.returns-in_default
returns-in_default c =
    let l = c.loop-s in
    let a = c.args in
    let f : ℕ → ℕ = reach a.kind a.color a.occupied in
    let over : squares l.rest ≡ [] = next_done l.rest (sym (ap lowest c.in_default.is) ∙ c.next-n.ensures) in
    sym (ap (counted f l.sum) over ∙ counted_none f l.sum) ∙ l.invariant.1
    ∙ sym (attacked_counted (λ s. attacks a.kind a.color s a.occupied) a.pieces)

pub overflow_add-sum : goal.overflow_add-sum
overflow_add-sum c =
    let first : squares c.loop-s.rest ≡ c.in-Some.s ∷ squares c.in-Some.r = let l = c.loop-s in
    (next_at l.rest c.in-Some.s c.in-Some.r l.invariant.0 (sym (ap lowest c.in-Some.is) ∙ c.next-n.ensures)).0 in
    let left : c.loop-s.sum + c.count-sum.result + 64 * length (squares c.in-Some.r) ≤ 4096 = let loop = c.loop-s in
    let e : length (squares loop.rest) ≡ suc (length (squares c.in-Some.r)) = ap length (first) in
    omega (arith, c.count-sum.ensures, many_le 64 (has c.attacks_from.result), loop.invariant.2) in
    omega (arith, left)

pub loop-s-smaller : goal.loop-s-smaller
loop-s-smaller c =
    let first : squares c.loop-s.rest ≡ c.in-Some.s ∷ squares c.in-Some.r = let l = c.loop-s in
    (next_at l.rest c.in-Some.s c.in-Some.r l.invariant.0 (sym (ap lowest c.in-Some.is) ∙ c.next-n.ensures)).0 in
    rw (first) (omega arith)

pub loop-s-preserved : goal.loop-s-preserved
loop-s-preserved c =
    let first : squares c.loop-s.rest ≡ c.in-Some.s ∷ squares c.in-Some.r = let l = c.loop-s in
    (next_at l.rest c.in-Some.s c.in-Some.r l.invariant.0 (sym (ap lowest c.in-Some.is) ∙ c.next-n.ensures)).0 in
    let left : c.loop-s.sum + c.count-sum.result + 64 * length (squares c.in-Some.r) ≤ 4096 = let loop = c.loop-s in
    let e : length (squares loop.rest) ≡ suc (length (squares c.in-Some.r)) = ap length (first) in
    omega (arith, c.count-sum.ensures, many_le 64 (has c.attacks_from.result), loop.invariant.2) in
    let l = c.loop-s in
    let a = c.args in
    let s : ℕ = c.in-Some.s in
    let r : ℕ = c.in-Some.r in
    let f : ℕ → ℕ = reach a.kind a.color a.occupied in (
      next_fits l.rest c.in-Some.s c.in-Some.r (sym (ap lowest c.in-Some.is) ∙ c.next-n.ensures),
      ap (λ (x : ℕ). counted f (l.sum + x) (squares r)) (c.count-sum.ensures ∙ ap (λ (b : ℕ). how_many 64 (has b)) c.attacks_from.ensures)
          ∙ sym (counted_one f l.sum s (squares r)) ∙ ap (counted f l.sum) (sym (first)) ∙ l.invariant.1,
      left,
    )
