-- The line of a flat trace goes over the places of its ones; so a list's is that of its flat form. What `add_list` returns. Assumes nothing.
use mathlib.Core.Path.{◌≡◌, refl, sym, ap, ap₂, ◌∙◌}
use mathlib.Core.Bool.{Bool, true, false, cond, ◌&&◌}
use mathlib.Core.List.{List}
use Prim.Native.Nat.{ℕ, suc, ◌≤◌}
use native.Mathlib.Omega.{arith}
use borrow.Author.Tests.{eq-eqb, ne_eqb}
use lib.Dec.{T}
use lib.IntN.{ℤ, pos}
use lib.Signed.{lt_z}
use lib.ListN.{get_or, length}
use lib.Ieee.{Float}
use Rattle.refusal.specs.declared.Refusal.TheVariants as R
use Rattle.laws.proofs.Truth.{T_true}
use Rattle.trace_counts.specs.Ranges.{in_ranges, are_entries}
use Rattle.trace_counts.specs.declared.Trace.{Trace}
use Rattle.doubles.specs.Doubles.{dbl}
use Rattle.trace_list.specs.Ones.{ones, over}
use Rattle.trace_list.specs.Form.{is_one_rule, is_list, list_places, ones_in, flat_of}
use Rattle.trace_list.proofs.Ones.{passed_over}
use Rattle.trace_list.proofs.There.{Listed, is_listed, back}
use Rattle.trace_list.proofs.Flat.{Mark, no, yes, mark_at, flat_entries, flat_length}
use Rattle.fit_gradient.specs.Gradient.{named_parts, first_raised, line_added}
use Rattle.fit_gradient.specs.Marks.{parts_of, marked_by, squares_by}
use Rattle.fit_gradient.specs.Lists.{mark_one, AddsList}
use Rattle.fit_gradient.specs.declared.Parts.{Parts}
use Rattle.fit_gradient.proofs.Doors.{line}
use Rattle.std.specs.Prelude.{Ok, Err}

-- ---- an entry that is 0 raises nothing
one : (p : Parts) (g : List Float) (k : ℕ) {z : ℤ} → Mark z → marked_by p g k z ≡ cond (lt_z (pos 0) z) (mark_one p g k) g
unfolding marked_by
one p g k no = refl
one p g k yes = refl

next : (p : Parts) (es : List ℤ) (g : List Float) (k : ℕ) → squares_by p es g (suc k) ≡ marked_by p (squares_by p es g k) k (get_or es k (pos 0))
unfolding squares_by
next p es g k = refl

first : (p : Parts) (es : List ℤ) (g : List Float) → squares_by p es g 0 ≡ g
unfolding squares_by
first p es g = refl

pub by_ones : (p : Parts) (es : List ℤ) (g : List Float) → T (are_entries es) → (n : ℕ) → n ≤ length es
    → squares_by p es g n ≡ over (mark_one p) g (ones (is_one_rule es) n)
by_ones p es g t n h =
    passed_over (mark_one p) (is_one_rule es) (squares_by p es g) n (λ k l. next p es g k ∙ one p (squares_by p es g k) k (mark_at es t k (omega arith)))
    ∙ ap (λ (s : List Float). over (mark_one p) s (ones (is_one_rule es) n)) (first p es g)

pub flat_line : (p : Parts) (es : List ℤ) (g : List Float) → length es ≡ 768 → T (are_entries es) → squares_by p es g 768 ≡ over (mark_one p) g (ones_in es)
unfolding ones_in
flat_line p es g e t = by_ones p es g t 768 (omega arith)

pub same_line : (p : Parts) (used : ℕ) (bytes : List ℕ) (g : List Float) → Listed used bytes
    → squares_by p (flat_of (list_places bytes used)) g 768 ≡ over (mark_one p) g (list_places bytes used)
same_line p used bytes g h =
    flat_line p (flat_of (list_places bytes used)) g (flat_length (list_places bytes used)) (flat_entries (list_places bytes used))
    ∙ ap (over (mark_one p) g) (back used bytes h)

-- ---- the returns
module _ (t : Trace) (used : ℕ) (bytes : List ℕ) (c : Float) (g : List Float) where
  pub list_unlike : (length g ≡ 779 → ⊥) → AddsList t used bytes c g (Err R.Shape) g
  list_unlike n = record { answer = rw (ne_eqb (length g) 779 n); lent = rw (ne_eqb (length g) 779 n) }

  pub list_no_trace : length g ≡ 779 → {a : Bool} → a ≡ in_ranges t → a ≡ false → AddsList t used bytes c g (Err R.Trace) g
  list_no_trace e q u = record { answer = simp (eq-eqb (length g) 779 e, sym q ∙ u); lent = simp (eq-eqb (length g) 779 e, sym q ∙ u) }

  pub no_list : length g ≡ 779 → {a b : Bool} → a ≡ in_ranges t → a ≡ true → b ≡ is_list used bytes → b ≡ false → AddsList t used bytes c g (Err R.Entry) g
  no_list e q u l v = record { answer = simp (eq-eqb (length g) 779 e, sym q ∙ u, sym l ∙ v); lent = simp (eq-eqb (length g) 779 e, sym q ∙ u, sym l ∙ v) }

  -- the code's way round
  pub list_line : T (is_list used bytes) → in_ranges t ≡ true → (n : ℕ) (named : List Float) (p : Parts) (x : ℤ) (mid r : List Float) → n ≡ used
      → named ≡ named_parts t c
      → x ≡ t.piece_count → p ≡ parts_of c (dbl x) → mid ≡ first_raised named g 11 → r ≡ over (mark_one p) mid (list_places bytes n)
      → r ≡ line_added t (flat_of (list_places bytes used)) c g
  list_line h u n named p x mid r i a o b m q =
      let es : List ℤ = flat_of (list_places bytes used) in
      let both : (in_ranges t && are_entries es) ≡ true = ap₂ (λ (y z : Bool). y && z) u (T_true (are_entries es) (flat_entries (list_places bytes used))) in
      line t es c g (flat_length (list_places bytes used)) both named p x mid r a o b m
      (q ∙ ap (λ (k : ℕ). over (mark_one p) mid (list_places bytes k)) i ∙ sym (same_line p used bytes mid (is_listed used bytes h)))

  pub list_worked : length g ≡ 779 → {a b : Bool} → a ≡ in_ranges t → a ≡ true → b ≡ is_list used bytes → b ≡ true → (r : List Float)
      → r ≡ line_added t (flat_of (list_places bytes used)) c g
      → AddsList t used bytes c g (Ok tt) r
  list_worked e q u l v r o = record {
    answer = simp (eq-eqb (length g) 779 e, sym q ∙ u, sym l ∙ v);
    lent =
        simp (eq-eqb (length g) 779 e, sym q ∙ u, sym l ∙ v) o;
  }
