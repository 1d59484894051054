-- The entries of a line: what they raise, nothing where an entry is 0, and that a line's four parts are all there are. Assumes nothing.
use mathlib.Core.Path.{◌≡◌, refl, sym, ap, ap₂, ◌∙◌}
use mathlib.Core.Bool.{Bool, true, false, cond}
use mathlib.Core.List.{List}
use Prim.Native.Nat.{ℕ, zero, suc, ◌+◌, ◌-◌, ◌^◌, ◌<◌, ◌≤◌}
use native.Mathlib.Nat.{zero-add}
use native.Mathlib.Numerals.{add-one}
use native.Mathlib.Omega.{arith}
use borrow.Author.Tests.{eq-eqb, ne_eqb}
use lib.Dec.{T, eqb}
use lib.IntN.{ℤ, pos, negsuc, nat_abs}
use lib.Signed.{mag}
use lib.ListN.{get_or, set, length, length-set}
use lib.Ieee.{Float, nan, of_int, of_bits}
use mir.Syntax.{w32}
use mir.Val.{of_z}
use Rattle.laws.proofs.Words.{held}
use Rattle.trace_counts.proofs.Held.{read}
use Rattle.laws.proofs.Tests.{all_at}
use Rattle.trace_counts.specs.Ranges.{within, are_entries}
use Rattle.doubles.specs.Doubles.{◌⊕◌, dbl, d1, minus1}
use Rattle.places.specs.Places.{colour_at}
use Rattle.fit_gradient.specs.Gradient.{raised, place_at, opening_part, ending_part, first_raised, entry_raised, squares_raised}
use Rattle.fit_gradient.specs.Marks.{parts_of, both_raised, colour_part, marked_by, entry_by, squares_by}
use Rattle.trace_marks.specs.Marks.{fold_from}
use Rattle.trace_marks.proofs.Folds as folds
use Rattle.trace_list.proofs.Flat.{Mark, no, yes, mark_of_holds}
use Rattle.fit_gradient.specs.declared.Parts.{Parts}

-- ---- a test of its bits says whether an entry is 0
zero_same : (z : ℤ) → mag z < 2 ^ 31 → eqb (of_z w32 z) 0 ≡ eqb (nat_abs z) 0
zero_same (pos n) h = refl
zero_same (negsuc n) h = ne_eqb (2 ^ 32 - suc n) 0 (λ e. omega arith) ∙ sym (ne_eqb (suc n) 0 (λ e. omega arith))

-- ---- one entry
module _ (p : Parts) (g : List Float) (k : ℕ) where
  pub passed_over : (z : ℤ) → mag z < 2 ^ 31 → of_z w32 z ≡ 0 → g ≡ marked_by p g k z
  unfolding marked_by
  passed_over z h e = rw (sym (zero_same z h) ∙ eq-eqb (of_z w32 z) 0 e)

  pub marked : (z : ℤ) {o e : Float} {r : List Float} → mag z < 2 ^ 31 → (of_z w32 z ≡ 0 → ⊥) → o ≡ colour_part k p.white_opening p.black_opening
      → e ≡ colour_part k p.white_ending p.black_ending → r ≡ both_raised g k o e → r ≡ marked_by p g k z
  unfolding marked_by
  marked z h n a b q = q ∙ ap₂ (both_raised g k) a b ∙ rw (sym (zero_same z h) ∙ ne_eqb (of_z w32 z) 0 n)

  pub nothing : (es : List ℤ) → get_or es k (pos 0) ≡ pos 0 → entry_by p es g k ≡ g
  unfolding marked_by
  nothing es z = rw z

-- the two places of an entry's weights
pub at_places : (g : List Float) (k a b : ℕ) (o e : Float) → a ≡ place_at 0 k → b ≡ place_at 1 k
    → set (set g a (get_or g a nan ⊕ o)) b (get_or (set g a (get_or g a nan ⊕ o)) b nan ⊕ e) ≡ both_raised g k o e
at_places g k a b o e p q = ap₂ (λ (i j : ℕ). raised (raised g i o) j e) p q

pub as_long : (g : List Float) (a b : ℕ) (x y : Float) → length g ≡ 779 → length (set (set g a x) b y) ≡ 779
as_long g a b x y h = length-set (set g a x) b y ∙ length-set g a x ∙ h

-- one more of those from k on, read back from its bits
pub one_read : (p : Parts) (es : List ℤ) (start : List Float) (k j : ℕ) {here now : List Float} → mag (get_or es (k + j) (pos 0)) < 2 ^ 31
    → here ≡ fold_from (entry_by p es) start k j → now ≡ marked_by p here (k + j) (held w32 (get_or es (k + j) (pos 0)))
    → now ≡ fold_from (entry_by p es) start k (suc j)
one_read p es start k j {here = here} h e q = folds.one_more (entry_by p es) start k j e (q ∙ ap (marked_by p here (k + j)) (read (get_or es (k + j) (pos 0)) h))

pub from_0 : (p : Parts) (es : List ℤ) (start : List Float) (n : ℕ) → fold_from (entry_by p es) start 0 n ≡ squares_by p es start n
unfolding fold_from squares_by
from_0 p es start zero = refl
from_0 p es start (suc n) = ap₂ (entry_by p es) (from_0 p es start n) (zero-add n)

-- ---- for entries that are 0 or 1 the four parts are all
one_is : dbl (pos 1) ≡ d1
unfolding of_int of_bits
one_is = refl

by_parts : (c x : Float) (g : List Float) (k : ℕ) {z : ℤ} → Mark z → entry_raised c x g k z ≡ marked_by (parts_of c x) g k z
unfolding entry_raised marked_by
by_parts c x g k no = refl
by_parts c x g k yes = rw one_is (go (eqb (colour_at k) 0))
  where
    go : (t : Bool) → both_raised g k (opening_part c (cond t d1 minus1) d1 x) (ending_part c (cond t d1 minus1) d1 x)
        ≡ both_raised g k (cond t (opening_part c d1 d1 x) (opening_part c minus1 d1 x)) (cond t (ending_part c d1 d1 x) (ending_part c minus1 d1 x))
    go true = refl
    go false = refl

pub all_by_parts : (c x : Float) (es : List ℤ) (g : List Float) → T (are_entries es) → (n : ℕ) → n ≤ length es
    → squares_raised c x es g n ≡ squares_by (parts_of c x) es g n
unfolding squares_raised squares_by
all_by_parts c x es g t zero h = refl
all_by_parts c x es g t (suc n) h =
    ap (λ (y : List Float). entry_raised c x y n (get_or es n (pos 0))) (all_by_parts c x es g t n (omega arith))
    ∙ by_parts c x (squares_by (parts_of c x) es g n) n (mark_of_holds (get_or es n (pos 0)) (all_at (length es) (λ k. within (pos 1) (get_or es k (pos 0))) t n h))

-- ---- the named weights, one on
pub one_more : (parts start g : List Float) (i : ℕ) → g ≡ first_raised parts start i → raised g i (get_or parts i nan) ≡ first_raised parts start (i + 1)
unfolding first_raised
one_more parts start g i e = rw add-one (ap (λ (x : List Float). raised x i (get_or parts i nan)) e)
