-- The binary digits of what a machine computes: `|`, `&`, `^`, `!` and shifts; two numbers of the same digits are one. Assumes nothing.
use mathlib.Core.Path.{◌≡◌, refl, sym, ap, ap₂, ◌∙◌}
use mathlib.Core.Bool.{Bool, true, false, true≢false, false≢true, not, ◌||◌, ◌&&◌, beq}
use Prim.Native.Nat.{ℕ, zero, suc, ◌+◌, ◌*◌, ◌-◌, ◌/◌, ◌%◌, ◌^◌, ◌≤◌, ◌<◌, suc-le-suc}
use native.Mathlib.Nat.{sub-zero, suc-sub-suc, mul-one, le_of_suc-le-suc, not-suc-le-zero, mod-lt, mod-eq_of_lt, div-eq_of_lt, lt_of_lt_of_le}
use native.Mathlib.Nat.{mul-mod_left, zero-div, pow-suc, mul-div_cancel, div-one}
use native.Mathlib.Numerals.{add-one, one-add}
use native.Mathlib.Omega.{arith}
use lib.Dec.{leb-zero, leb-suc-zero, leb-suc-suc, eqb-zero-suc, eqb-suc-zero, eqb-suc-suc, eqb, leb}
use lib.Pow.{pow_mono, shr-shr, shr_lt, field, mod-mod-pow}
use lib.Bits.{shifted_half, shifted_even, bit_and, bit_or, bit_xor, or_shr, or_mod, and_shr, and_mod, xor_shr, xor_mod, xor_add_and, and_mask}
use Rattle.laws.specs.Tests.{all_below}
use Rattle.laws.proofs.Tests.{all_at}
use Rattle.laws.proofs.Truth.{is_beq}
use Rattle.bits.specs.Bitboard.{is_set, has}

-- ---- the digits of `|`, `&` and `^`

pub two_pos : 0 < 2
two_pos = omega arith

digits2 : (P : ℕ → ℕ → Type 0) → P 0 0 → P 0 1 → P 1 0 → P 1 1 → (p q : ℕ) → p < 2 → q < 2 → P p q
digits2 P a b c d zero zero hp hq = a
digits2 P a b c d zero (suc zero) hp hq = b
digits2 P a b c d zero (suc (suc q)) hp hq = absurd (omega arith)
digits2 P a b c d (suc zero) zero hp hq = c
digits2 P a b c d (suc zero) (suc zero) hp hq = d
digits2 P a b c d (suc zero) (suc (suc q)) hp hq = absurd (omega arith)
digits2 P a b c d (suc (suc p)) q hp hq = absurd (omega arith)

module _ (op : ℕ → ℕ → ℕ) (t : Bool → Bool → Bool)
    (op_shr : (a b k : ℕ) → op a b / 2 ^ k ≡ op (a / 2 ^ k) (b / 2 ^ k))
    (op-mod : (a b k : ℕ) → op a b % 2 ^ k ≡ op (a % 2 ^ k) (b % 2 ^ k))
    (op-digit : (p q : ℕ) → p < 2 → q < 2 → is_set (op p q) ≡ t (is_set p) (is_set q)) where
  has_op : (a b k : ℕ) → has (op a b) k ≡ t (has a k) (has b k)
  unfolding has
  has_op a b k =
      ap (λ (x : ℕ). is_set (x % 2)) (op_shr a b k) ∙ ap is_set (op-mod (a / 2 ^ k) (b / 2 ^ k) 1)
      ∙ op-digit (a / 2 ^ k % 2) (b / 2 ^ k % 2) (mod-lt (a / 2 ^ k) two_pos) (mod-lt (b / 2 ^ k) two_pos)

pub has_or : (a b k : ℕ) → has (bit_or a b) k ≡ (has a k || has b k)
has_or = has_op bit_or (λ x y. x || y) or_shr or_mod (digits2 (λ p q. is_set (bit_or p q) ≡ (is_set p || is_set q)) refl refl refl refl)

pub has_and : (a b k : ℕ) → has (bit_and a b) k ≡ (has a k && has b k)
has_and = has_op bit_and (λ x y. x && y) and_shr and_mod (digits2 (λ p q. is_set (bit_and p q) ≡ (is_set p && is_set q)) refl refl refl refl)

pub has_xor : (a b k : ℕ) → has (bit_xor a b) k ≡ not (beq (has a k) (has b k))
has_xor = has_op bit_xor (λ x y. not (beq x y)) xor_shr xor_mod (digits2 (λ p q. is_set (bit_xor p q) ≡ not (beq (is_set p) (is_set q))) refl refl
    refl refl)

-- ---- `!`: every digit below 64 the other way
pub has_full : (k : ℕ) → k < 64 → has (2 ^ 64 - 1) k ≡ true
unfolding has all_below
has_full k h = is_beq (has (2 ^ 64 - 1) k) true (all_at 64 (λ j. beq (has (2 ^ 64 - 1) j) true) tt k h)

not_is_xor : (a : ℕ) → a < 2 ^ 64 → 2 ^ 64 - 1 - a ≡ bit_xor a (2 ^ 64 - 1)
not_is_xor a h = omega (arith, xor_add_and a (2 ^ 64 - 1), and_mask a 64, mod-eq_of_lt h)

flip : (b c : Bool) → c ≡ true → not (beq b c) ≡ not b
flip true c e = ap (λ (x : Bool). not (beq true x)) e
flip false c e = ap (λ (x : Bool). not (beq false x)) e

pub has_not : (a k : ℕ) → a < 2 ^ 64 → k < 64 → has (2 ^ 64 - 1 - a) k ≡ not (has a k)
has_not a k ha hk = rw (not_is_xor a ha) (has_xor a (2 ^ 64 - 1) k ∙ flip (has a k) (has (2 ^ 64 - 1) k) (has_full k hk))

-- ---- shifts
pub has_shr : (a s k : ℕ) → has (a / 2 ^ s) k ≡ has a (s + k)
unfolding has
has_shr a s k = ap (λ (x : ℕ). is_set (x % 2)) (shr-shr a s k)

pub has_zero : (k : ℕ) → has 0 k ≡ false
unfolding has
has_zero k = ap (λ (x : ℕ). is_set (x % 2)) (zero-div (2 ^ k))

-- nothing stands above a number's digits
pub has_high : (a n k : ℕ) → a < 2 ^ n → n ≤ k → has a k ≡ false
unfolding has
has_high a n k h l = ap (λ (x : ℕ). is_set (x % 2)) (div-eq_of_lt (lt_of_lt_of_le h (pow_mono l)))

-- ---- two bitboards are equal where they have the same squares
pub has_half_holds : (a k : ℕ) → has a (suc k) ≡ has (a / 2) k
unfolding has
has_half_holds a k = sym (ap (λ (x : ℕ). is_set (x % 2)) (shr-shr a 1 k) ∙ ap (λ (x : ℕ). is_set (a / 2 ^ x % 2)) (one-add k))

-- a digit from its test
same_digit : (p q : ℕ) → p < 2 → q < 2 → is_set p ≡ is_set q → p ≡ q
same_digit zero zero hp hq e = refl
same_digit zero (suc q) hp hq e = absurd (false≢true e)
same_digit (suc p) zero hp hq e = absurd (true≢false e)
same_digit (suc p) (suc q) hp hq e = omega arith

pub has_0 : (a : ℕ) → has a 0 ≡ is_set (a % 2)
unfolding has
has_0 a = ap (λ (x : ℕ). is_set (x % 2)) (div-one a)

pub ext : (n a b : ℕ) → a < 2 ^ n → b < 2 ^ n → ((k : ℕ) → k < n → has a k ≡ has b k) → a ≡ b
ext zero a b ha hb e = omega arith
ext (suc n) a b ha hb e =
    let h : a / 2 ≡ b / 2 = ext n (a / 2) (b / 2) (shr_lt n 1 (rw add-one ha)) (shr_lt n 1 (rw add-one hb))
    (λ k l. sym (has_half_holds a k) ∙ e (suc k) (suc-le-suc l) ∙ has_half_holds b k) in
    let d : a % 2 ≡ b % 2 = same_digit (a % 2) (b % 2) (mod-lt a two_pos) (mod-lt b two_pos) (sym (has_0 a) ∙ e 0 (omega arith) ∙ has_0 b) in
    omega arith

-- ---- one square
pub has_one : (s k : ℕ) → has (2 ^ s) k ≡ eqb k s
unfolding has
has_one zero zero = refl
has_one zero (suc k) = has_half_holds 1 k ∙ has_zero k ∙ sym (eqb-suc-zero k)
has_one (suc s) zero = has_0 (2 ^ suc s) ∙ ap is_set (ap (λ (x : ℕ). x % 2) (pow-suc 2 s) ∙ mul-mod_left (2 ^ s) 2) ∙ sym (eqb-zero-suc s)
has_one (suc s) (suc k) =
    has_half_holds (2 ^ suc s) k ∙ ap (λ (x : ℕ). has x k) (ap (λ (x : ℕ). x / 2) (pow-suc 2 s) ∙ mul-div_cancel (2 ^ s) two_pos)
    ∙ has_one s k ∙ sym (eqb-suc-suc k s)

-- ---- `<<` loses what leaves the board
pub has_mod : (n x k : ℕ) → k < n → has (x % 2 ^ n) k ≡ has x k
has_mod zero x k h = absurd (not-suc-le-zero h)
has_mod (suc n) x zero h =
    has_0 (x % 2 ^ suc n) ∙ ap is_set (ap (λ (m : ℕ). x % 2 ^ m % 2) (sym (add-one n)) ∙ mod-mod-pow x n 1) ∙ sym (has_0 x)
has_mod (suc n) x (suc k) h =
    has_half_holds (x % 2 ^ suc n) k ∙ ap (λ (y : ℕ). has y k) (ap (λ (m : ℕ). x % 2 ^ m / 2) (sym (add-one n)) ∙ field x n 1)
    ∙ has_mod n (x / 2) k (le_of_suc-le-suc h) ∙ sym (has_half_holds x k)

pub has_up : (a s k : ℕ) → has (a * 2 ^ s) k ≡ (leb s k && has a (k - s))
has_up a zero k = ap (λ (x : ℕ). has x k) (mul-one a) ∙ sym (ap₂ (λ (t : Bool) (j : ℕ). t && has a j) (leb-zero k) (sub-zero k))
has_up a (suc s) zero = has_0 (a * 2 ^ suc s) ∙ ap is_set (shifted_even a s) ∙ sym (ap (λ (t : Bool). t && has a (0 - suc s)) (leb-suc-zero s))
has_up a (suc s) (suc k) =
    has_half_holds (a * 2 ^ suc s) k ∙ ap (λ (x : ℕ). has x k) (shifted_half a s) ∙ has_up a s k
    ∙ sym (ap₂ (λ (t : Bool) (j : ℕ). t && has a j) (leb-suc-suc s k) (suc-sub-suc k s))

pub has_shl : (a s k : ℕ) → k < 64 → has (a * 2 ^ s % 2 ^ 64) k ≡ (leb s k && has a (k - s))
has_shl a s k h = has_mod 64 (a * 2 ^ s) k h ∙ has_up a s k
