-- A number of 32 bits as the machine holds it, read back. Assumes nothing.
use mathlib.Core.Path.{◌≡◌}
use Prim.Native.Nat.{◌^◌, ◌<◌}
use lib.IntN.{ℤ}
use lib.Signed.{mag}
use mir.Syntax.{w32}
use mir.ValLaws.{to_z-of_z}
use Rattle.laws.proofs.Words.{held}

pub read : (z : ℤ) → mag z < 2 ^ 31 → held w32 z ≡ z
read z h = to_z-of_z w32 z (record { sfits = h })
