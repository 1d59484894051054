-- The flat form of a list: 768 entries, each 0 or 1. Assumes nothing.
use mathlib.Core.Path.{◌≡◌, sym, subst}
use mathlib.Core.Bool.{Bool, true, false}
use mathlib.Core.List.{List}
use Prim.Native.Nat.{ℕ, zero, suc, ◌<◌}
use native.Mathlib.Omega.{arith}
use lib.Dec.{T, leb→le}
use lib.IntN.{ℤ, pos, negsuc}
use lib.Signed.{le_z}
use lib.ListN.{get_or, length}
use Rattle.laws.proofs.Truth.{and_r}
use Rattle.laws.proofs.Tests.{all_at, all_of}
use Rattle.laws.proofs.Tables.{entry, tabulate_length}
use Rattle.bits.specs.Bitboard.{is_in, digit}
use Rattle.trace_counts.specs.Ranges.{within, are_entries}
use Rattle.trace_list.specs.Form.{flat_of}

pub flat_length : (places : List ℕ) → length (flat_of places) ≡ 768
unfolding flat_of
flat_length places = tabulate_length 768 (λ k. pos (digit (is_in k places)))

pub flat_at : (places : List ℕ) (k : ℕ) → k < 768 → get_or (flat_of places) k (pos 0) ≡ pos (digit (is_in k places))
unfolding flat_of
flat_at places k h = entry 768 (λ k. pos (digit (is_in k places))) (pos 0) k h

digit_within : (t : Bool) → T (within (pos 1) (pos (digit t)))
digit_within true = tt
digit_within false = tt

pub flat_entries : (places : List ℕ) → T (are_entries (flat_of places))
flat_entries places =
    all_of (length (flat_of places)) (λ k. within (pos 1) (get_or (flat_of places) k (pos 0)))
    (λ k h. subst (λ (z : ℤ). T (within (pos 1) z)) (sym (flat_at places k (subst (λ (n : ℕ). k < n) (flat_length places) h))) (digit_within (is_in k places)))

-- ---- an entry that is 0 or 1
pub data Mark : ℤ → Type 0 where
  no : Mark (pos 0)
  yes : Mark (pos 1)

pub mark_of_holds : (z : ℤ) → T (within (pos 1) z) → Mark z
mark_of_holds (pos zero) t = no
mark_of_holds (pos (suc zero)) t = yes
mark_of_holds (pos (suc (suc n))) t = absurd (omega (arith, leb→le (suc (suc n)) 1 (and_r (le_z (pos 0) (pos (suc (suc n)))) (le_z (pos (suc (suc n))) (pos 1)) t)))
mark_of_holds (negsuc n) t = absurd t

pub mark_at : (entries : List ℤ) → T (are_entries entries) → (k : ℕ) → k < length entries → Mark (get_or entries k (pos 0))
mark_at entries t k h = mark_of_holds (get_or entries k (pos 0)) (all_at (length entries) (λ k. within (pos 1) (get_or entries k (pos 0))) t k h)
