-- Numbers of 16 bits. Assumes nothing.
use mathlib.Core.Path.{◌≡◌}
use mathlib.Core.Bool.{true}
use Prim.Native.Nat.{◌≤◌}
use native.Mathlib.Nat.{le_trans}
use native.Mathlib.Omega.{arith}
use borrow.Author.Tests.{ltb-true}
use lib.IntN.{ℤ, nat_abs}
use lib.Signed.{mag, quot_z}
use mir.Syntax.{w16}
use mir.Val.{SFits}
use Rattle.laws.proofs.Diff.{abs_mag, abs_quot}
use Rattle.score_taper.specs.Parts.{in16}

pub short_abs : (z : ℤ) → in16 z ≡ true → nat_abs z ≤ 32768
short_abs z e = omega (arith, abs_mag z, ltb-true (mag z) 32768 e)

pub short_fits : (z : ℤ) → in16 z ≡ true → SFits w16 z
short_fits z e = record { sfits = ltb-true (mag z) 32768 e }

pub quot_abs : (z d : ℤ) → in16 z ≡ true → nat_abs (quot_z z d) ≤ 32768
quot_abs z d e = le_trans (abs_quot z d) (short_abs z e)
