-- The lowest square of a bitboard: the machine's count of trailing zeros. Assumes nothing.
use mathlib.Core.Path.{◌≡◌, refl, sym, ap, ◌∙◌}
use mathlib.Core.Logic.{⊎_elim}
use mathlib.Core.Bool.{Bool, true, false, cond}
use Prim.Native.Nat.{ℕ, zero, suc, ◌+◌, ◌-◌, ◌/◌, ◌%◌, ◌^◌, ◌≤◌, ◌<◌, suc-le-suc}
use native.Mathlib.Nat.{not-suc-le-zero, le_of_suc-le-suc, suc_inj, add-zero, zero-add, add-suc, suc-add, eq-or-lt_of_le}
use native.Mathlib.Numerals.{add-one}
use native.Mathlib.Omega.{arith}
use lib.Pow.{shr_lt}
use lib.Arith.{lt-one}
use lib.Count.{count_trailing_zeros, under}
use Rattle.bits.specs.Bitboard.{is_set, has, first_from, lowest_of}
use Rattle.bits.proofs.Digits.{has_half_holds, has_0}

-- ---- the lowest square
pub record Lowest (n b s : ℕ) : Type 0 where
  pub inside : s ≤ n
  pub clear : (k : ℕ) → k < s → has b k ≡ false
  pub found : s < n → has b s ≡ true
  pub empty : b < 2 ^ n → s ≡ n → b ≡ 0

lowest_step : (n b d t : ℕ) → b % 2 ≡ d → Lowest n (b / 2) t → Lowest (suc n) b (under d t)
lowest_step n b zero t e l = record {
  inside = suc-le-suc l.inside;
  clear = clear;
  found = λ h. has_half_holds b t ∙ l.found (le_of_suc-le-suc h);
  empty = λ h q. omega (arith, l.empty (shr_lt n 1 (rw add-one h)) (suc_inj q), e);
}
  where
    clear : (k : ℕ) → k < suc t → has b k ≡ false
    clear zero h = has_0 b ∙ ap is_set e
    clear (suc k) h = has_half_holds b k ∙ l.clear k (le_of_suc-le-suc h)
lowest_step n b (suc d) t e l = record {
  inside = omega arith;
  clear = λ k h. absurd (not-suc-le-zero h);
  found = λ h. has_0 b ∙ ap is_set e;
  empty = λ h q. absurd (omega arith);
}

pub scanned_lowest : (n b : ℕ) → Lowest n b (count_trailing_zeros n b)
unfolding count_trailing_zeros
scanned_lowest zero b = record {
  inside = omega arith;
  clear = λ k h. absurd (not-suc-le-zero h);
  found = λ h. absurd (not-suc-le-zero h);
  empty =
      λ h q. lt-one h;
}
scanned_lowest (suc n) b = lowest_step n b (b % 2) (count_trailing_zeros n (b / 2)) refl (scanned_lowest n (b / 2))

-- a bitboard that is not empty has its lowest square on the board
pub scan_lt : (b : ℕ) → b < 2 ^ 64 → (b ≡ 0 → ⊥) → count_trailing_zeros 64 b < 64
scan_lt b h ne = ⊎_elim (λ e. absurd (ne ((scanned_lowest 64 b).empty h e))) (λ l. l) (eq-or-lt_of_le (scanned_lowest 64 b).inside)

first_is : (j n k : ℕ) (f : ℕ → Bool) → ((i : ℕ) → i < j → f (k + i) ≡ false) → (0 < n → f (k + j) ≡ true) → first_from (j + n) k f ≡ k + j
unfolding first_from
first_is zero zero k f e t = sym (add-zero k)
first_is zero (suc n) k f e t = ap (λ (x : ℕ). first_from x k f) (zero-add (suc n))
    ∙ ap (λ (b : Bool). cond b k (first_from n (suc k) f)) (ap f (sym (add-zero k)) ∙ t (omega arith)) ∙ sym (add-zero k)
first_is (suc j) n k f e t =
    ap (λ (x : ℕ). first_from x k f) (suc-add j n)
    ∙ ap (λ (b : Bool). cond b k (first_from (j + n) (suc k) f)) (ap f (sym (add-zero k)) ∙ e 0 (omega arith))
    ∙ first_is j n (suc k) f (λ i h. ap f (suc-add k i ∙ sym (add-suc k i)) ∙ e (suc i) (suc-le-suc h)) (λ h. ap f (suc-add k j ∙ sym (add-suc k j)) ∙ t h)
    ∙ suc-add k j ∙ sym (add-suc k j)

-- the machine's count of trailing zeros is the lowest square
pub scan_is : (b : ℕ) → count_trailing_zeros 64 b ≡ lowest_of b
unfolding lowest_of
scan_is b =
    let s : ℕ = count_trailing_zeros 64 b in
    let l = scanned_lowest 64 b in
    let e : 64 ≡ s + (64 - s) = omega (arith, l.inside) in
    sym (ap (λ (x : ℕ). first_from x 0 (has b)) e
    ∙ first_is s (64 - s) 0 (has b) (λ i h. ap (has b) (zero-add i) ∙ l.clear i h) (λ h. ap (has b) (zero-add s) ∙ l.found (omega arith))
    ∙ zero-add s)
