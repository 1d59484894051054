-- A list that is not refused, turned flat and back, is the same list; its places rise. Assumes nothing.
use mathlib.Core.Path.{◌≡◌, refl, ap, subst, ◌∙◌}
use mathlib.Core.Bool.{Bool, true, false, ◌&&◌, ◌||◌}
use mathlib.Core.List.{List}
use Prim.Native.Nat.{ℕ, suc, ◌*◌, ◌<◌, ◌≤◌}
use native.Mathlib.Omega.{arith}
use borrow.Author.Tests.{le-ltb}
use lib.Dec.{T, ltb, leb, eqb, ltb→lt, leb→le, eqb→eq}
use lib.IntN.{ℤ, pos}
use lib.Signed.{lt_z}
use lib.ListN.{get_or, length}
use Rattle.laws.specs.Tests.{all_below}
use Rattle.laws.specs.Tables.{tabulate}
use Rattle.laws.proofs.Truth.{and_l, and_r}
use Rattle.laws.proofs.Tests.{all_at}
use Rattle.laws.proofs.Tables.{entry, tabulate_length}
use Rattle.bits.specs.Bitboard.{is_in, digit}
use Rattle.trace_list.specs.Form.{kind_in, square_in, colour_in, list_place, list_places, in_range, least_at, comes_after, is_unused, is_list, flat_of}
use Rattle.trace_list.specs.Form.{is_one_rule, ones_in}
use Rattle.trace_list.proofs.Ones.{ones_same}
use Rattle.trace_list.proofs.Rising.{Rises, listed_again}

-- ---- what a list that is not refused is
pub record Listed (used : ℕ) (bytes : List ℕ) : Type 0 where
  pub few : used ≤ 64
  pub kinds : (i : ℕ) → i < used → kind_in bytes i < 6
  pub squares : (i : ℕ) → i < used → square_in bytes i < 64
  pub colours : (i : ℕ) → i < used → colour_in bytes i < 2
  pub sorted : (i : ℕ) → suc i < used → list_place bytes i < list_place bytes (suc i)
  pub unused : (j : ℕ) → 3 * used ≤ j → j < 192 → get_or bytes j 0 ≡ 0

follow : (bytes : List ℕ) (i : ℕ) → T (comes_after bytes i) → T (in_range bytes i) × (least_at bytes i ≤ list_place bytes i)
unfolding comes_after
follow bytes i t = (
  and_l (in_range bytes i) (leb (least_at bytes i) (list_place bytes i)) t,
  leb→le (least_at bytes i) (list_place bytes i) (and_r (in_range bytes i) (leb (least_at bytes i) (list_place bytes i)) t),
)

pub is_listed : (used : ℕ) (bytes : List ℕ) → T (is_list used bytes) → Listed used bytes
unfolding is_list
is_listed used bytes t =
    let a = leb used 64 in
    let b = all_below used (comes_after bytes) in
    let d = all_below 192 (is_unused used bytes) in
    let ab : T (a && b) = and_l (a && b) d t in
    let each : (i : ℕ) → i < used → T (in_range bytes i) × (least_at bytes i ≤ list_place bytes i) =
    λ i l. follow bytes i (all_at used (comes_after bytes) (and_r a b ab) i l) in
    record {
      few = leb→le used 64 (and_l a b ab);
      kinds = λ i l. ltb→lt (kind_in bytes i) 6
          (and_l (ltb (kind_in bytes i) 6) (ltb (square_in bytes i) 64)
          (and_l (ltb (kind_in bytes i) 6 && ltb (square_in bytes i) 64) (ltb (colour_in bytes i) 2) (each i l).0));
      squares = λ i l. ltb→lt (square_in bytes i) 64
          (and_r (ltb (kind_in bytes i) 6) (ltb (square_in bytes i) 64)
          (and_l (ltb (kind_in bytes i) 6 && ltb (square_in bytes i) 64) (ltb (colour_in bytes i) 2) (each i l).0));
      colours = λ i l. ltb→lt (colour_in bytes i) 2 (and_r (ltb (kind_in bytes i) 6 && ltb (square_in bytes i) 64) (ltb (colour_in bytes i) 2) (each i l).0);
      sorted = λ i l. (each (suc i) l).1;
      unused = λ j h l. rest used bytes j h (all_at 192 (is_unused used bytes) (and_r (a && b) d t) j l);
    }
  where
    rest : (used : ℕ) (bytes : List ℕ) (j : ℕ) → 3 * used ≤ j → T (is_unused used bytes j) → get_or bytes j 0 ≡ 0
    rest used bytes j h t = eqb→eq (get_or bytes j 0) 0 (subst (λ (x : Bool). T (x || eqb (get_or bytes j 0) 0)) (le-ltb j (3 * used) h) t)

-- ---- its places rise, and are places
module _ (used : ℕ) (bytes : List ℕ) (h : Listed used bytes) where
  pub place_below : (i : ℕ) → i < used → list_place bytes i < 768
  unfolding list_place
  place_below i l = omega (arith, h.kinds i l, h.squares i l, h.colours i l)

  pub rising : Rises (list_place bytes) used 768
  rising = record { up = h.sorted; below = place_below }

-- ---- what is 1 in the flat form
pub one_is : (t : Bool) → lt_z (pos 0) (pos (digit t)) ≡ t
one_is true = refl
one_is false = refl

pub is_one : (places : List ℕ) (k : ℕ) → k < 768 → is_one_rule (flat_of places) k ≡ is_in k places
unfolding flat_of
is_one places k h = ap (λ (z : ℤ). lt_z (pos 0) z) (entry 768 (λ k. pos (digit (is_in k places))) (pos 0) k h) ∙ one_is (is_in k places)

-- the list of the flat form of a list is the list
pub back : (used : ℕ) (bytes : List ℕ) → Listed used bytes → ones_in (flat_of (list_places bytes used)) ≡ list_places bytes used
unfolding ones_in list_places
back used bytes h =
    ones_same (is_one_rule (flat_of (list_places bytes used))) (λ k. is_in k (tabulate used (list_place bytes))) 768 (λ k l. is_one (list_places bytes used) k l)
    ∙ listed_again (list_place bytes) used 768 (rising used bytes h)

pub how_many_holds : (used : ℕ) (bytes : List ℕ) → length (list_places bytes used) ≡ used
unfolding list_places
how_many_holds used bytes = tabulate_length used (list_place bytes)
