-- What TRACE's ranges say of a trace's numbers, one by one. Assumes nothing.
use mathlib.Core.Path.{◌≡◌, refl, sym, subst}
use mathlib.Core.Bool.{Bool, true, false, not, ◌&&◌}
use mathlib.Core.List.{List}
use Prim.Native.Nat.{ℕ, ◌≤◌, ◌<◌}
use native.Mathlib.Nat.{le_of_eq}
use native.Mathlib.Omega.{arith}
use lib.Dec.{T, leb, ltb, leb→le, le→leb, eqb→eq, ltb→lt, nltb→le}
use lib.IntN.{ℤ, pos, negsuc, nat_abs}
use lib.ListN.{length, get_or, get_or-eq_default}
use lib.Signed.{le_z}
use Rattle.laws.proofs.Truth.{true_T, and_l, and_r}
use Rattle.laws.proofs.Tests.{all_at}
use Rattle.trace_counts.specs.Ranges.{within, all_within, is_side, counts_within, in_ranges, are_entries}
use Rattle.trace_counts.specs.declared.Trace.{Trace}

small : (most : ℕ) (z : ℤ) → T (within (pos most) z) → nat_abs z ≤ most
small most (pos n) t = leb→le n most (and_r (leb 0 n) (leb n most) t)
small most (negsuc n) t = absurd (and_l false (le_z (negsuc n) (pos most)) t)

not_below_holds : (most : ℕ) (z : ℤ) → T (within (pos most) z) → z ≡ pos (nat_abs z)
not_below_holds most (pos n) t = refl
not_below_holds most (negsuc n) t = absurd (and_l false (le_z (negsuc n) (pos most)) t)

-- a list's numbers, those past its end too: there stands 0
in_list : (most : ℕ) (l : List ℤ) (i : ℕ) → T (all_within (pos most) l) → T (within (pos most) (get_or l i (pos 0)))
in_list most l i t = go (ltb i (length l)) (ltb→lt i (length l)) (nltb→le i (length l))
  where
    go : (b : Bool) → (T b → i < length l) → (T (not b) → length l ≤ i) → T (within (pos most) (get_or l i (pos 0)))
    go true h k = all_at (length l) (λ k. within (pos most) (get_or l k (pos 0))) t i (h tt)
    go false h k = subst (λ (z : ℤ). T (within (pos most) z)) (sym (get_or-eq_default l (pos 0) {n = i} (k tt))) (le→leb 0 most (omega arith))

at : (most : ℕ) (l : List ℤ) (i : ℕ) → T (all_within (pos most) l) → nat_abs (get_or l i (pos 0)) ≤ most
at most l i t = small most (get_or l i (pos 0)) (in_list most l i t)

pub record Ranged (t : Trace) : Type 0 where
  pub pawns : (i : ℕ) → nat_abs (get_or t.pawns i (pos 0)) ≤ 64
  pub knights : (i : ℕ) → nat_abs (get_or t.knights i (pos 0)) ≤ 64
  pub bishops : (i : ℕ) → nat_abs (get_or t.bishops i (pos 0)) ≤ 64
  pub rooks : (i : ℕ) → nat_abs (get_or t.rooks i (pos 0)) ≤ 64
  pub queens : (i : ℕ) → nat_abs (get_or t.queens i (pos 0)) ≤ 64
  pub pairs : (i : ℕ) → nat_abs (get_or t.bishop_pair i (pos 0)) ≤ 1
  pub attacks : (i : ℕ) → nat_abs (get_or t.mobility i (pos 0)) ≤ 1728
  pub side : nat_abs t.side ≤ 1
  pub pieces : nat_abs t.piece_count ≤ 64

five : (a b c d e : Bool) → T (a && b && c && d && e) → T a × T b × T c × T d × T e
five a b c d e t =
    let four : T (a && b && c && d) = and_l (a && b && c && d) e t in
    let three : T (a && b && c) = and_l (a && b && c) d four in
    let two : T (a && b) = and_l (a && b) c three in
    (and_l a b two, and_r a b two, and_r (a && b) c three, and_r (a && b && c) d four, and_r (a && b && c && d) e t)

pub ranged : (t : Trace) → in_ranges t ≡ true → Ranged t
ranged t e =
    let all = five (counts_within t) (all_within (pos 1) t.bishop_pair) (all_within (pos 1728) t.mobility) (is_side t.side)
    (within (pos 64) t.piece_count) (true_T e) in
    let counts =
    five (all_within (pos 64) t.pawns) (all_within (pos 64) t.knights) (all_within (pos 64) t.bishops) (all_within (pos 64) t.rooks)
    (all_within (pos 64) t.queens) all.0 in
    record {
      pawns = λ i. at 64 t.pawns i counts.0;
      knights = λ i. at 64 t.knights i counts.1;
      bishops = λ i. at 64 t.bishops i counts.2;
      rooks = λ i. at 64 t.rooks i counts.3;
      queens = λ i. at 64 t.queens i counts.4;
      pairs = λ i. at 1 t.bishop_pair i all.1;
      attacks = λ i. at 1728 t.mobility i all.2;
      side = le_of_eq (eqb→eq (nat_abs t.side) 1 all.3);
      pieces = small 64 t.piece_count all.4;
    }

-- "a square entry is 0 or 1"
pub record Entered (entries : List ℤ) : Type 0 where
  pub whole : (k : ℕ) → get_or entries k (pos 0) ≡ pos (nat_abs (get_or entries k (pos 0)))
  pub ones : (k : ℕ) → nat_abs (get_or entries k (pos 0)) ≤ 1

pub entered : (entries : List ℤ) → are_entries entries ≡ true → Entered entries
entered entries e = record {
  whole = λ k. not_below_holds 1 (get_or entries k (pos 0)) (in_list 1 entries k (true_T e));
  ones = λ k. at 1 entries k (true_T e);
}
