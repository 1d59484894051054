-- What `eval_list` returns: one law for each return. Assumes nothing.
use mathlib.Core.Path.{◌≡◌, sym, ap, ◌∙◌}
use mathlib.Core.Bool.{Bool, true, false}
use mathlib.Core.List.{List}
use Prim.Native.Nat.{ℕ}
use borrow.Author.Tests.{eq-eqb, ne_eqb}
use lib.Dec.{T}
use lib.IntN.{ℤ}
use lib.ListN.{length}
use lib.Ieee.{Float}
use Rattle.refusal.specs.Answer.{given, refusal_of}
use Rattle.refusal.specs.declared.Refusal.TheVariants as R
use Rattle.laws.proofs.Truth.{true_T}
use Rattle.trace_counts.specs.Ranges.{in_ranges}
use Rattle.trace_counts.specs.declared.Weights.{Weights}
use Rattle.trace_counts.specs.declared.Trace.{Trace}
use Rattle.doubles.specs.Doubles.{dbl}
use Rattle.trace_named.specs.Named.{named}
use Rattle.trace_list.specs.Ones.{over}
use Rattle.trace_list.specs.Form.{is_list, list_places}
use Rattle.trace_list.proofs.There.{is_listed}
use Rattle.trace_list_double.specs.Promises.{weighed, list_double_of}
use Rattle.trace_list_double.proofs.Same.{same_bits}

module _ (t : Trace) (used : ℕ) (bytes : List ℕ) (w : Weights) (squares : List Float) where
  pub unlike : (length squares ≡ 768 → ⊥) → refusal_of R.Shape ≡ list_double_of t used bytes w squares
  unlike n = simp (ne_eqb (length squares) 768 n)

  pub no_trace_holds : length squares ≡ 768 → {a : Bool} → a ≡ in_ranges t → a ≡ false → refusal_of R.Trace ≡ list_double_of t used bytes w squares
  no_trace_holds e q u = simp (eq-eqb (length squares) 768 e, sym q ∙ u)

  pub no_list : length squares ≡ 768 → {a b : Bool} → a ≡ in_ranges t → a ≡ true → b ≡ is_list used bytes → b ≡ false
      → refusal_of R.Entry ≡ list_double_of t used bytes w squares
  no_list e q u l v = simp (eq-eqb (length squares) 768 e, sym q ∙ u, sym l ∙ v)

  pub worked : length squares ≡ 768 → {a b : Bool} → a ≡ in_ranges t → a ≡ true → b ≡ is_list used bytes → b ≡ true → {n : ℕ} {x : ℤ} {start r : Float} → n ≡ used
      → x ≡ t.piece_count → start ≡ named t w → r ≡ over (weighed squares (dbl x)) start (list_places bytes n) → given r ≡ list_double_of t used bytes w squares
  worked e q u l v {n} {x} {start} {r} i p s o =
      let h : T (is_list used bytes) = true_T (sym l ∙ v) in
      let here : r ≡ over (weighed squares (dbl t.piece_count)) (named t w) (list_places bytes used) = o ∙ rw (i, p, s) in
      simp (eq-eqb (length squares) 768 e, sym q ∙ u, sym l ∙ v) (ap given (here ∙ sym (same_bits t used bytes w squares (is_listed used bytes h))))
