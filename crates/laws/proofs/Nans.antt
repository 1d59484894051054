-- What is no NaN: a double that does not differ from itself, and a pattern that is not past the infinity's. Assumes nothing.
use mathlib.Core.Path.{◌≡◌, sym, ◌∙◌, subst}
use mathlib.Core.Bool.{Bool, false, not}
use Prim.Native.Nat.{ℕ, ◌%◌, ◌≤◌}
use lib.Dec.{T}
use lib.Ieee.{Float, nan, inf, fin, is_nan, nan_bits, binary64, ne}
use lib.Ieee.Bits.{nan_bits_above}
use lib.Ieee.Compare.{nan_differs}
use borrow.Author.Tests.{le-ltb}

-- only a NaN differs from itself
pub is_no_nan : (x : Float) → ne x x ≡ false → T (not (is_nan x))
unfolding is_nan
is_no_nan nan e = subst T (sym nan_differs ∙ e) tt
is_no_nan (inf s) e = tt
is_no_nan (fin s m e) h = tt

-- a pattern is a NaN's exactly if it is past the infinity's, but for the sign
pub no_nan_bits : (n : ℕ) → n % 9223372036854775808 ≤ 9218868437227405312 → T (not (nan_bits binary64 n))
no_nan_bits n h = subst (λ (b : Bool). T (not b)) (sym (nan_bits_above binary64 n ∙ le-ltb 9218868437227405312 (n % 9223372036854775808) h)) tt
