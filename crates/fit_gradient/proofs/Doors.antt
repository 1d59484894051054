-- What `add` returns: one law for each return. Assumes nothing.
use mathlib.Core.Path.{◌≡◌, sym, ap, ap₂, ◌∙◌}
use mathlib.Core.Bool.{true, false, ◌&&◌}
use mathlib.Core.List.{List}
use native.Mathlib.Nat.{le_of_eq}
use borrow.Author.Tests.{eq-eqb, ne_eqb}
use lib.Dec.{T}
use lib.IntN.{ℤ}
use lib.ListN.{length}
use lib.Ieee.{Float}
use Rattle.refusal.specs.declared.Refusal.TheVariants as R
use Rattle.laws.proofs.Truth.{true_T, and_r}
use Rattle.trace_counts.specs.Ranges.{in_ranges, are_entries}
use Rattle.trace_counts.specs.declared.Trace.{Trace}
use Rattle.doubles.specs.Doubles.{dbl}
use Rattle.fit_gradient.specs.Gradient.{named_parts, first_raised, line_added}
use Rattle.fit_gradient.specs.Marks.{parts_of, squares_by}
use Rattle.fit_gradient.specs.Promises.{AddsTrace}
use Rattle.fit_gradient.specs.declared.Parts.{Parts}
use Rattle.fit_gradient.proofs.Marks.{all_by_parts}
use Rattle.std.specs.Prelude.{Ok, Err}

module _ (t : Trace) (es : List ℤ) (c : Float) (g : List Float) where
  pub unlike_entries : (length es ≡ 768 → ⊥) → AddsTrace t es c g (Err R.Shape) g
  unlike_entries n = record { answer = rw (ne_eqb (length es) 768 n); lent = rw (ne_eqb (length es) 768 n) }

  pub unlike_gradient : length es ≡ 768 → (length g ≡ 779 → ⊥) → AddsTrace t es c g (Err R.Shape) g
  unlike_gradient e n = record {
    answer = rw (eq-eqb (length es) 768 e, ne_eqb (length g) 779 n);
    lent =
        rw (eq-eqb (length es) 768 e, ne_eqb (length g) 779 n);
  }

  pub no_trace_holds : length es ≡ 768 → length g ≡ 779 → (in_ranges t && are_entries es) ≡ false → AddsTrace t es c g (Err R.Trace) g
  no_trace_holds e f u = record {
    answer = simp (eq-eqb (length es) 768 e, eq-eqb (length g) 779 f, u);
    lent =
        simp (eq-eqb (length es) 768 e, eq-eqb (length g) 779 f, u);
  }

  pub worked : length es ≡ 768 → length g ≡ 779 → (in_ranges t && are_entries es) ≡ true → (r : List Float) → r ≡ line_added t es c g → AddsTrace t es c g (Ok tt) r
  worked e f u r q = record {
    answer = simp (eq-eqb (length es) 768 e, eq-eqb (length g) 779 f, u);
    lent =
        simp (eq-eqb (length es) 768 e, eq-eqb (length g) 779 f, u) q;
  }

  -- the code's way round
  pub line : length es ≡ 768 → (in_ranges t && are_entries es) ≡ true → (named : List Float) (p : Parts) (x : ℤ) (mid r : List Float) → named ≡ named_parts t c
      → x ≡ t.piece_count → p ≡ parts_of c (dbl x) → mid ≡ first_raised named g 11 → r ≡ squares_by p es mid 768 → r ≡ line_added t es c g
  unfolding line_added
  line e u named p x mid r a o b m q =
      let entries : T (are_entries es) = and_r (in_ranges t) (are_entries es) (true_T u) in
      let start = first_raised (named_parts t c) g 11 in
      q
      ∙ ap₂ (λ (y : Parts) (z : List Float). squares_by y es z 768) (b ∙ ap (λ (y : ℤ). parts_of c (dbl y)) o) (m ∙ ap (λ (z : List Float). first_raised z g 11) a)
      ∙ sym (all_by_parts c (dbl t.piece_count) es start entries 768 (le_of_eq (sym e)))
