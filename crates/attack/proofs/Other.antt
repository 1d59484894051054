-- The other colour is one of the two, and its other is the first. Assumes nothing.
use mathlib.Core.Path.{◌≡◌, refl}
use mathlib.Core.Bool.{Bool, true, false, cond}
use Prim.Native.Nat.{ℕ, zero, suc, ◌<◌}
use native.Mathlib.Omega.{arith}
use lib.Dec.{eqb}
use Rattle.attack.specs.Attacks.{other}

pub other_lt : (colour : ℕ) → other colour < 2
other_lt colour = go (eqb colour 0)
  where
    go : (b : Bool) → cond b 1 0 < 2
    go true = omega arith
    go false = omega arith

pub other_back : (colour : ℕ) → colour < 2 → other (other colour) ≡ colour
other_back zero h = refl
other_back (suc zero) h = refl
other_back (suc (suc colour)) h = absurd (omega arith)
