-- The exact sum is the named weights' part and, place by place, what each entry adds: the double's own order. Assumes nothing.
use mathlib.Core.Path.{◌≡◌, sym, ap, ap₂, ◌∙◌}
use mathlib.Core.Bool.{cond}
use mathlib.Core.List.{List}
use Prim.Native.Nat.{ℕ, ◌+◌, ◌*◌, ◌/◌, ◌%◌, ◌<◌}
use native.Mathlib.Omega.{arith}
use lib.Dec.{eqb}
use lib.IntN.{ℤ, pos, neg_ℤ, ◌+ℤ◌, ◌-ℤ◌, ◌*ℤ◌, +ℤ_idl}
use lib.ListN.{get_or}
use Rattle.laws.specs.Sums.{sum_z}
use Rattle.laws.proofs.Sums.{whole_same}
use Rattle.laws.proofs.Terms.{sum_blocks}
use Rattle.places.specs.Places.{entry_place, weight_place}
use Rattle.trace_shipped.specs.Weights.{square_weight}
use Rattle.trace_counts.specs.declared.Trace.{Trace}
use Rattle.trace_exact.specs.Exact.{shipped_whole, term, square_sum, exact_by, exact_sum}
use Rattle.trace_stray.proofs.Named.{named_sum}
use Rattle.trace_stray.proofs.Squares.{weighed, weight_of, placed}

module _ (e : ℕ → ℤ) (x : ℤ) where
  -- what the entry at k adds
  abbrev adds : ℕ → ℤ
  adds k = placed x k (e k)

  at_place : (kind s c : ℕ) → s < 64 → c < 2
      → adds (128 * kind + (2 * s + c)) ≡ cond (eqb c 0) (term shipped_whole e x kind s c) (neg_ℤ (term shipped_whole e x kind s c))
  unfolding placed
  at_place kind s c hs hc =
      let k : ℕ = 128 * kind + (2 * s + c) in
      let ep : k ≡ entry_place kind s c = omega arith in
      let ek : k / 128 ≡ kind = omega arith in
      let es : k % 128 / 2 ≡ s = omega arith in
      let ec : k % 2 ≡ c = omega arith in
      ap (λ (i : ℕ). cond (eqb (k % 2) 0) (e i *ℤ weight_of x k) (neg_ℤ (e i *ℤ weight_of x k))) ep
      ∙ ap₂ (λ (i j : ℕ). cond (eqb (k % 2) 0) (e (entry_place kind s c) *ℤ weighed (square_weight (weight_place i 0 j)) (square_weight (weight_place i 1 j)) x)
      (neg_ℤ (e (entry_place kind s c) *ℤ weighed (square_weight (weight_place i 0 j)) (square_weight (weight_place i 1 j)) x))) ek es
      ∙ ap (λ (i : ℕ). cond (eqb i 0) (term shipped_whole e x kind s c) (neg_ℤ (term shipped_whole e x kind s c))) ec

  two_terms : (f : ℕ → ℤ) → sum_z 2 f ≡ f 0 +ℤ f 1
  unfolding sum_z
  two_terms f = ap (λ (z : ℤ). z +ℤ f 1) (+ℤ_idl (f 0))

  a_kind : (kind : ℕ) → sum_z 128 (λ j. adds (128 * kind + j)) ≡ sum_z 64 (λ s. term shipped_whole e x kind s 0 -ℤ term shipped_whole e x kind s 1)
  a_kind kind =
      sum_blocks 2 64 (λ j. adds (128 * kind + j))
      ∙ whole_same 64 (λ s. sum_z 2 (λ c. adds (128 * kind + (2 * s + c)))) (λ s. term shipped_whole e x kind s 0 -ℤ term shipped_whole e x kind s 1)
      (λ s h. two_terms (λ c. adds (128 * kind + (2 * s + c))) ∙ ap₂ ◌+ℤ◌ (at_place kind s 0 h (omega arith)) (at_place kind s 1 h (omega arith)))

  squares_placed : square_sum shipped_whole e x ≡ sum_z 768 adds
  unfolding square_sum
  squares_placed =
      sym (sum_blocks 128 6 adds
      ∙ whole_same 6 (λ kind. sum_z 128 (λ j. adds (128 * kind + j))) (λ kind. sum_z 64
      (λ s. term shipped_whole e x kind s 0 -ℤ term shipped_whole e x kind s 1)) (λ kind h. a_kind kind))

pub exact_placed : (t : Trace) (entries : List ℤ)
    → exact_sum shipped_whole t entries ≡ named_sum t +ℤ sum_z 768 (λ k. placed t.piece_count k (get_or entries k (pos 0)))
unfolding exact_sum exact_by named_sum
exact_placed t entries = ap (λ (z : ℤ). named_sum t +ℤ z) (squares_placed (λ i. get_or entries i (pos 0)) t.piece_count)
