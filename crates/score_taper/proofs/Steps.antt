-- No step of 64 bits wraps, so each is the step over ℤ. Assumes nothing.
use mathlib.Core.Path.{◌≡◌, ap₂, ◌∙◌}
use Prim.Native.Nat.{ℕ, ◌+◌, ◌*◌, ◌≤◌, ◌<◌, ◌^◌}
use native.Mathlib.Nat.{mul-le-mul, le_trans}
use native.Mathlib.Omega.{arith}
use lib.IntN.{ℤ, pos, nat_abs, ◌+ℤ◌, ◌-ℤ◌, ◌*ℤ◌}
use mir.Facts.{to_z-of_z, to_z_pos}
use mir.Syntax.{w64}
use mir.Val.{SFits, to_z}
use Rattle.laws.proofs.Diff.{diff_pos, diff_minus, diff_abs, abs_mul, abs_add, abs_minus}
use Rattle.laws.proofs.Words.{held, fits_abs}

-- far inside 64 bits
abbrev pub room : ℕ
room = 1000000000000

fits : (z : ℤ) → nat_abs z ≤ room → SFits w64 z
fits z h = fits_abs {w = w64} {z = z} room tt h

pub keeps : (z : ℤ) → nat_abs z ≤ room → held w64 z ≡ z
keeps z h = to_z-of_z {w = w64} {z = z} (fits z h)

-- ---- a difference of two numbers of 32 bits
module _ (a b : ℕ) (ha : a < 2 ^ 32) (hb : b < 2 ^ 32) where
  raw : to_z w64 a -ℤ to_z w64 b ≡ pos a -ℤ pos b
  raw = ap₂ ◌-ℤ◌ (to_z_pos w64 {n = a} (omega arith)) (to_z_pos w64 {n = b} (omega arith))

  abs : nat_abs (pos a -ℤ pos b) ≤ 4294967295
  abs =
      diff_abs (pos a -ℤ pos b) (a + 0) (0 + b) 4294967295
      (diff_minus (pos a) (pos b) a 0 b 0 (diff_pos a) (diff_pos b)) (omega arith) (omega arith)

  pub less_fits : SFits w64 (to_z w64 a -ℤ to_z w64 b)
  less_fits = rw raw (fits (pos a -ℤ pos b) (let h = abs in omega arith))

  pub less_is : held w64 (to_z w64 a -ℤ to_z w64 b) ≡ pos a -ℤ pos b
  less_is = to_z-of_z {w = w64} less_fits ∙ raw

  pub less_small : nat_abs (held w64 (to_z w64 a -ℤ to_z w64 b)) ≤ 4294967295
  less_small = rw less_is abs

-- ---- a product
module _ (y n : ℤ) (hy : nat_abs y ≤ 2147483648) (hn : nat_abs n ≤ 4294967295) where
  times_raw : held w64 y *ℤ held w64 n ≡ y *ℤ n
  times_raw = ap₂ ◌*ℤ◌ (keeps y (omega arith)) (keeps n (omega arith))

  pub times_fits : SFits w64 (held w64 y *ℤ held w64 n)
  times_fits = rw times_raw (fits_abs {w = w64} {z = y *ℤ n} (2147483648 * 4294967295) tt (rw abs_mul (mul-le-mul hy hn)))

  pub times_is : held w64 (held w64 y *ℤ held w64 n) ≡ y *ℤ n
  times_is = to_z-of_z {w = w64} times_fits ∙ times_raw

-- ---- a sum and a difference of small numbers; of the sum, one is already in its place
module _ (x a b : ℤ) (j k : ℕ) (e : x ≡ a) (ha : nat_abs a ≤ j) (hb : nat_abs b ≤ k) (h : j + k ≤ room) where
  plus_raw : x +ℤ held w64 b ≡ a +ℤ b
  plus_raw = ap₂ ◌+ℤ◌ e (keeps b (omega arith))

  pub plus_abs : nat_abs (a +ℤ b) ≤ j + k
  plus_abs = abs_add a b j k ha hb

  pub plus_fits : SFits w64 (x +ℤ held w64 b)
  plus_fits = rw plus_raw (fits (a +ℤ b) (le_trans plus_abs h))

  pub plus_is : held w64 (x +ℤ held w64 b) ≡ a +ℤ b
  plus_is = to_z-of_z {w = w64} plus_fits ∙ plus_raw

module _ (a b : ℤ) (ha : nat_abs a ≤ 32768) (hb : nat_abs b ≤ 32768) where
  minus_raw : held w64 a -ℤ held w64 b ≡ a -ℤ b
  minus_raw = ap₂ ◌-ℤ◌ (keeps a (omega arith)) (keeps b (omega arith))

  minus_abs : nat_abs (a -ℤ b) ≤ 65536
  minus_abs = abs_minus a b 32768 32768 ha hb

  pub minus_fits : SFits w64 (held w64 a -ℤ held w64 b)
  minus_fits = rw minus_raw (fits (a -ℤ b) (let h = minus_abs in omega arith))

  pub minus_is : held w64 (held w64 a -ℤ held w64 b) ≡ a -ℤ b
  minus_is = to_z-of_z {w = w64} minus_fits ∙ minus_raw

  pub minus_small : nat_abs (held w64 (held w64 a -ℤ held w64 b)) ≤ 4294967295
  minus_small = rw minus_is (let h = minus_abs in omega arith)
