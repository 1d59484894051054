-- Numbers of 32 bits, as the machine holds them, subtracted in 64 bits. Assumes nothing.
use mathlib.Core.Path.{◌≡◌, ◌∙◌}
use Prim.Native.Nat.{◌^◌, ◌<◌, ◌≤◌}
use native.Mathlib.Nat.{le_trans}
use native.Mathlib.Omega.{arith}
use lib.Dec.{T, le→leb, lt→ltb}
use lib.IntN.{ℤ, pos, negsuc, nat_abs, ◌-ℤ◌}
use lib.Signed.{mag}
use lib.Ieee.{binary64, in_float}
use mir.Syntax.{w32, w64}
use mir.Val.{SFits}
use mir.ValLaws.{to_z-of_z}
use Rattle.laws.proofs.Words.{held, widens, fits_abs}
use Rattle.laws.proofs.Diff.{abs_mag, abs_minus}
use Rattle.trace_counts.proofs.Held.{read}

pub wide : (z : ℤ) → mag z < 2 ^ 31 → SFits w64 (held w32 z)
wide z h = rw (read z h) (widens {w = w32} w64 tt (record { sfits = h }))

pub read_wide : (z : ℤ) → mag z < 2 ^ 31 → held w64 (held w32 z) ≡ z
read_wide z h = to_z-of_z w64 (held w32 z) (wide z h) ∙ read z h

-- the difference of two of them is no farther from zero than 2 ^ 32
apart : (a b : ℤ) → mag a < 2 ^ 31 → mag b < 2 ^ 31 → nat_abs (a -ℤ b) ≤ 2 ^ 32
apart a b f g =
    let p = abs_mag a in
    let q = abs_mag b in
    le_trans (abs_minus a b (2 ^ 31) (2 ^ 31) (omega arith) (omega arith)) (omega arith)

pub less_fits : (a b : ℤ) → mag a < 2 ^ 31 → mag b < 2 ^ 31 → SFits w64 (held w64 (held w32 a) -ℤ held w64 (held w32 b))
less_fits a b f g = rw (read_wide a f, read_wide b g) (fits_abs {w = w64} (2 ^ 32) tt (apart a b f g))

pub less : (a b : ℤ) → mag a < 2 ^ 31 → mag b < 2 ^ 31 → held w64 (held w64 (held w32 a) -ℤ held w64 (held w32 b)) ≡ a -ℤ b
less a b f g = to_z-of_z w64 (held w64 (held w32 a) -ℤ held w64 (held w32 b)) (less_fits a b f g) ∙ rw (read_wide a f, read_wide b g)

-- such a difference is a double exactly
exact : (z : ℤ) → nat_abs z ≤ 2 ^ 32 → T (in_float binary64 z)
unfolding in_float
exact (pos n) h = le→leb n (2 ^ 53) (omega arith)
exact (negsuc n) h = lt→ltb n (2 ^ 53) (omega arith)

pub less_exact : (a b : ℤ) → mag a < 2 ^ 31 → mag b < 2 ^ 31 → T (in_float binary64 (held w64 (held w64 (held w32 a) -ℤ held w64 (held w32 b))))
less_exact a b f g = rw (less a b f g) (exact (a -ℤ b) (apart a b f g))
