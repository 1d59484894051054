-- `score_material::inner::material` meets its contract. The loop's invariant: the sum of the kinds passed. Assumes nothing.
use mathlib.Core.Path.{◌≡◌, sym, ap, ap₂, ◌∙◌}
use Prim.Native.Nat.{ℕ, ◌+◌, ◌*◌}
use native.Mathlib.Omega.{arith}
use Rattle.laws.specs.Sums.{sum_n}
use Rattle.laws.proofs.Sums.{sum_none, sum_more}
use Rattle.score_material.specs.Pieces.{count}
use Rattle.chess.specs.Values.{value_of}
use Rattle.score_material.proofs.Pieces.{count_le, worth_of_holds}
use Rattle.score_material.proofs.inner.material.Goals as goal

pub loop-kind-init : goal.loop-kind-init
loop-kind-init c = let a = c.args in (sym (sum_none (λ k. count a.bitboards.now k a.color * value_of k)), omega arith)

pub value-sum-requires : goal.value-sum-requires
value-sum-requires c =
    let a = c.args in
    omega (arith, c.number-n.ensures, count_le a.bitboards.now c.loop-kind.kind a.color)

pub loop-kind-preserved : goal.loop-kind-preserved
loop-kind-preserved c =
    let l = c.loop-kind in
    let a = c.args in
    let f : ℕ → ℕ = λ k. count a.bitboards.now k a.color * value_of k in (
      ap₂ ◌+◌ l.invariant.0 (c.value-sum.ensures.0 ∙ ap (λ (n : ℕ). n * value_of l.kind) c.number-n.ensures) ∙ sym (sum_more f l.kind),
      omega (arith, c.value-sum.ensures.1, l.invariant.1),
    )

pub returns : goal.returns
returns c =
    let l = c.loop-kind in
    let a = c.args in
    let e : l.kind ≡ 6 = omega arith in
    l.invariant.0 ∙ ap (λ (k : ℕ). sum_n k (λ j. count a.bitboards.now j a.color * value_of j)) e ∙ worth_of_holds a.bitboards.now a.color
