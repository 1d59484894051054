-- One square put, taken away, turned over or asked for, and a shift, as a program computes them. Assumes nothing.
use mathlib.Core.Path.{◌≡◌, refl, sym, ap, ◌∙◌}
use mathlib.Core.Bool.{Bool, true, false, not, ◌||◌, ◌&&◌, beq}
use Prim.Native.Nat.{ℕ, zero, suc, ◌+◌, ◌*◌, ◌-◌, ◌/◌, ◌%◌, ◌^◌, ◌<◌}
use native.Mathlib.Nat.{lt_of_le_of_lt, one-mul, mod-lt, mod-eq_of_lt}
use native.Mathlib.Omega.{arith}
use lib.Dec.{eqb-suc-zero, eqb, leb}
use lib.Pow.{pow-lt, shr_le, pow_pos}
use lib.Bits.{or_lt, xor_lt, and_lt, bit_and, bit_or, bit_xor, and_mask}
use borrow.Author.Tests.{eq-eqb, ne_eqb}
use Rattle.bits.specs.Bitboard.{is_set, has, those}
use Rattle.bits.proofs.Digits.{two_pos, has_or, has_and, has_xor, has_not, has_one, has_shl, has_shr}
use Rattle.bits.proofs.Those.{is_those}

-- ---- one square of a bitboard put, taken away and turned over, as a program computes it
pub one_fits : (s : ℕ) → s < 64 → 1 * 2 ^ s % 2 ^ 64 ≡ 2 ^ s
one_fits s h = ap (λ (x : ℕ). x % 2 ^ 64) (one-mul (2 ^ s)) ∙ mod-eq_of_lt (pow-lt h)

pub alone : (s : ℕ) → s < 64 → 1 * 2 ^ s % 2 ^ 64 ≡ those 64 (λ k. eqb k s)
alone s h = one_fits s h ∙ is_those (2 ^ s) (λ k. eqb k s) (pow-lt h) (λ k l. has_one s k)

module _ (b s : ℕ) (hb : b < 2 ^ 64) (hs : s < 64) where
  pub put : bit_or b (1 * 2 ^ s % 2 ^ 64) ≡ those 64 (λ k. has b k || eqb k s)
  put =
      ap (bit_or b) (one_fits s hs)
      ∙ is_those (bit_or b (2 ^ s)) (λ k. has b k || eqb k s) (or_lt 64 b (2 ^ s) hb (pow-lt hs))
      (λ k h. has_or b (2 ^ s) k ∙ ap (λ (t : Bool). has b k || t) (has_one s k))

  pub turn : bit_xor b (1 * 2 ^ s % 2 ^ 64) ≡ those 64 (λ k. not (beq (has b k) (eqb k s)))
  turn =
      ap (bit_xor b) (one_fits s hs)
      ∙ is_those (bit_xor b (2 ^ s)) (λ k. not (beq (has b k) (eqb k s))) (xor_lt 64 b (2 ^ s) hb (pow-lt hs))
      (λ k h. has_xor b (2 ^ s) k ∙ ap (λ (t : Bool). not (beq (has b k) t)) (has_one s k))

  pub take_away : bit_and b (2 ^ 64 - 1 - 1 * 2 ^ s % 2 ^ 64) ≡ those 64 (λ k. has b k && not (eqb k s))
  take_away =
      ap (λ (x : ℕ). bit_and b (2 ^ 64 - 1 - x)) (one_fits s hs)
      ∙ is_those (bit_and b (2 ^ 64 - 1 - 2 ^ s)) (λ k. has b k && not (eqb k s)) (and_lt 64 b (2 ^ 64 - 1 - 2 ^ s) hb (omega arith))
      (λ k h. has_and b (2 ^ 64 - 1 - 2 ^ s) k ∙ ap (λ (t : Bool). has b k && t) (has_not (2 ^ s) k (pow-lt hs) h ∙ ap not (has_one s k)))

-- `(b >> s) & 1 != 0` asks for square s
pub asked : (b s : ℕ) → not (eqb (bit_and (b / 2 ^ s) 1) 0) ≡ has b s
unfolding has
asked b s = ap (λ (x : ℕ). not (eqb x 0)) (and_mask (b / 2 ^ s) 1) ∙ go (b / 2 ^ s % 2) (mod-lt (b / 2 ^ s) two_pos)
  where
    go : (d : ℕ) → d < 2 → not (eqb d 0) ≡ is_set d
    go zero h = refl
    go (suc d) h = ap not (eqb-suc-zero d)

pub is_clear : (b s : ℕ) → bit_and (b / 2 ^ s) 1 ≡ 0 → has b s ≡ false
is_clear b s e = sym (asked b s) ∙ ap not (eq-eqb (bit_and (b / 2 ^ s) 1) 0 e)

pub is_there : (b s : ℕ) → (bit_and (b / 2 ^ s) 1 ≡ 0 → ⊥) → has b s ≡ true
is_there b s e = sym (asked b s) ∙ ap not (ne_eqb (bit_and (b / 2 ^ s) 1) 0 e)

pub shifted_up : (b s : ℕ) → b * 2 ^ s % 2 ^ 64 ≡ those 64 (λ k. leb s k && has b (k - s))
shifted_up b s = is_those (b * 2 ^ s % 2 ^ 64) (λ k. leb s k && has b (k - s)) (mod-lt (b * 2 ^ s) (pow_pos 64)) (λ k h. has_shl b s k h)

pub shifted_down : (b s : ℕ) → b < 2 ^ 64 → b / 2 ^ s ≡ those 64 (λ k. has b (s + k))
shifted_down b s h = is_those (b / 2 ^ s) (λ k. has b (s + k)) (lt_of_le_of_lt (shr_le b s) h) (λ k l. has_shr b s k)
