-- Numbers that fit a signed word, and a signed local read back from its bits, for every width. Assumes nothing.
use mathlib.Core.Path.{◌≡◌, refl, sym, ap, ◌∙◌}
use mathlib.Core.Bool.{true, false, true≢false, false≢true}
use Prim.Native.Nat.{ℕ, suc, ◌-◌, ◌^◌, ◌<◌, ◌≤◌}
use native.Mathlib.Nat.{lt_of_lt_of_le, lt_of_le_of_lt, le_trans}
use native.Mathlib.Omega.{arith}
use lib.Dec.{T, leb, ltb, leb-zero, leb→le, ltb→lt}
use lib.IntN.{ℤ, pos, negsuc, nat_abs, ◌-ℤ◌}
use lib.Signed.{le_z}
use borrow.Author.Tests.{le-ltb}
use mir.Syntax.{Width}
use mir.Val.{SFits, hbits, to_z, of_z}
use mir.ValLaws.{to_z-of_z}
use Rattle.laws.proofs.Diff.{mag_abs, abs_mag}

-- ---- what fits a word fits a wider one
pub widens : {w : Width} {z : ℤ} (v : Width) → T (leb (2 ^ hbits w) (2 ^ hbits v)) → SFits w z → SFits v z
widens {w} v t f = record { sfits = lt_of_lt_of_le f.sfits (leb→le (2 ^ hbits w) (2 ^ hbits v) t) }

-- a number no farther from zero than a numeral fits
pub fits_abs : {w : Width} {z : ℤ} (k : ℕ) → T (ltb k (2 ^ hbits w)) → nat_abs z ≤ k → SFits w z
fits_abs {w} {z} k t h = record { sfits = lt_of_le_of_lt (le_trans (mag_abs z) h) (ltb→lt k (2 ^ hbits w) t) }

-- and what fits is no farther from zero than the word's half
pub fits_near : {w : Width} {z : ℤ} → SFits w z → nat_abs z ≤ 2 ^ hbits w
fits_near {w} {z} f = le_trans (abs_mag z) f.sfits

-- ---- a signed local holds bits, and a need reads it back from them
abbrev pub held : Width → ℤ → ℤ
held w z = to_z w (of_z w z)

pub held_is : {w : Width} {z v : ℤ} → SFits w z → z ≡ v → held w z ≡ v
held_is {w} {z} f e = to_z-of_z w z f ∙ e

-- not below zero: it is pos n
pub record Up (w : Width) (z : ℤ) : Type 0 where
  pub n : ℕ
  pub is : z ≡ pos n
  pub read : held w z ≡ pos n
  pub small : n < 2 ^ hbits w

-- below zero: it is negsuc n, and −1 − z, which never overflows, is n
pub record Down (w : Width) (z : ℤ) : Type 0 where
  pub n : ℕ
  pub is : z ≡ negsuc n
  pub less : negsuc 0 -ℤ held w z ≡ pos n
  pub read : held w (negsuc 0 -ℤ held w z) ≡ pos n
  pub small : n < 2 ^ hbits w

pub up : (w : Width) (z : ℤ) → SFits w z → le_z (pos 0) (held w z) ≡ true → Up w z
up w (pos n) f t = record { n = n; is = refl; read = to_z-of_z w (pos n) f; small = f.sfits }
up w (negsuc n) f t = absurd (false≢true (ap (le_z (pos 0)) (sym (to_z-of_z w (negsuc n) f)) ∙ t))

pub down : (w : Width) (z : ℤ) → SFits w z → le_z (pos 0) (held w z) ≡ false → Down w z
down w (pos n) f t = absurd (true≢false (sym (leb-zero n) ∙ ap (le_z (pos 0)) (sym (to_z-of_z w (pos n) f)) ∙ t))
down w (negsuc n) f t =
    let e : negsuc 0 -ℤ held w (negsuc n) ≡ pos n = ap (λ (y : ℤ). negsuc 0 -ℤ y) (to_z-of_z w (negsuc n) f) ∙ minus n in
    record { n = n; is = refl; less = e; read = ap (held w) e ∙ to_z-of_z w (pos n) (record { sfits = f.sfits }); small = f.sfits }
  where
    minus : (k : ℕ) → negsuc 0 -ℤ negsuc k ≡ pos k
    minus k = let e : suc k - 1 ≡ k = omega arith in simp (le-ltb (suc k) 1 (omega arith), e)
