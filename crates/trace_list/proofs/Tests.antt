-- What the tests of a list find, entry by entry and byte by byte. Assumes nothing.
use mathlib.Core.Path.{◌≡◌, refl, sym, ap, ◌∙◌}
use mathlib.Core.Bool.{Bool, true, false, ◌&&◌, ◌||◌}
use mathlib.Core.List.{List}
use Prim.Native.Nat.{ℕ, suc, ◌+◌, ◌*◌, ◌<◌, ◌≤◌}
use native.Mathlib.Numerals.{add-one}
use native.Mathlib.Omega.{arith}
use borrow.Author.Tests.{lt-ltb, le-ltb, le-leb, lt-leb}
use lib.Dec.{leb, eqb}
use lib.ListN.{get_or}
use Rattle.laws.specs.Tests.{all_below}
use Rattle.laws.proofs.Truth.{true_T, T_true}
use Rattle.laws.proofs.Tests.{all_of}
use Rattle.trace_list.specs.Form.{list_place, least_at, in_range, comes_after, is_unused, is_list}

pub place_is : (bytes : List ℕ) (i at : ℕ) {r : ℕ} → at ≡ 3 * i → r ≡ 128 * get_or bytes at 0 + 2 * get_or bytes (at + 1) 0 + get_or bytes (at + 2) 0
    → r ≡ list_place bytes i
unfolding list_place
place_is bytes i at e q = q ∙ ap (λ (k : ℕ). 128 * get_or bytes k 0 + 2 * get_or bytes (k + 1) 0 + get_or bytes (k + 2) 0) e

-- ---- the entries
pub least_none : (bytes : List ℕ) → 0 ≡ least_at bytes 0
least_none bytes = refl

pub least_more : (bytes : List ℕ) (i : ℕ) {here : ℕ} → here ≡ list_place bytes i → here + 1 ≡ least_at bytes (i + 1)
least_more bytes i {here} e =
    let a : i + 1 ≡ suc i = omega arith in
    let b : here + 1 ≡ suc (list_place bytes i) = omega arith in
    b ∙ ap (least_at bytes) (sym a)

pub sorted_none : (bytes : List ℕ) → true ≡ all_below 0 (comes_after bytes)
unfolding all_below
sorted_none bytes = refl

pub sorted_more : (bytes : List ℕ) (i : ℕ) {least here : ℕ} {a good : Bool} → least ≡ least_at bytes i → here ≡ list_place bytes i → a ≡ in_range bytes i
    → good ≡ all_below i (comes_after bytes) → (a && leb least here && good) ≡ all_below (i + 1) (comes_after bytes)
unfolding all_below comes_after
sorted_more bytes i l h a g = rw (add-one, l, h, a, g)

-- ---- the bytes past them
module _ (used : ℕ) (bytes : List ℕ) where
  pub padded_none : (j : ℕ) → j ≡ 3 * used → true ≡ all_below j (is_unused used bytes)
  padded_none j e = sym (T_true (all_below j (is_unused used bytes)) (all_of j (is_unused used bytes)
      (λ k l. true_T (ap (λ (t : Bool). t || eqb (get_or bytes k 0) 0) (lt-ltb k (3 * used) (omega arith))))))

  pub padded_more : (j : ℕ) (good : Bool) → 3 * used ≤ j → good ≡ all_below j (is_unused used bytes)
      → (eqb (get_or bytes j 0) 0 && good) ≡ all_below (j + 1) (is_unused used bytes)
  unfolding all_below
  padded_more j good h e = rw (add-one, e, le-ltb j (3 * used) h)

-- ---- all of it
pub too_many : (used : ℕ) (bytes : List ℕ) → 64 < used → false ≡ is_list used bytes
unfolding is_list
too_many used bytes h = rw (lt-leb used 64 h)

pub both_tests : (used : ℕ) (bytes : List ℕ) {n : ℕ} {a b : Bool} → n ≡ used → n ≤ 64 → a ≡ all_below n (comes_after bytes)
    → b ≡ all_below 192 (is_unused n bytes) → (a && b) ≡ is_list used bytes
unfolding is_list
both_tests used bytes e h p q = rw (sym e, le-leb _ 64 h, p, q)
