-- What it is that the root is nearest, over whole numbers: IEEE 754's sentence, which proofs/Doubles shows of `root_of`.
-- Everything is in units of 2^-1074, the least that a double can be: a double is w units, and the root of a units is √(a·2^1074) units.
-- Definitions only.
use Rattle.std.specs.Prelude.{◌≡◌, ℕ, suc, ◌+◌, ◌*◌, ◌^◌, ◌<◌, false, T, ℤ, Float}
use Rattle.std.specs.Float.{fin, binary64}
use Rattle.std.specs.Float.Ieee.{fits}
use Rattle.std.specs.Float.Ieee.Exact.{HasValue}
use Rattle.fit_root.specs.Root.{units_of, root_of}

-- w units are 53 binary digits, moved up: as every finite double is
pub record IsDouble (w : ℕ) : Type 0 where
  pub digits : ℕ
  pub places : ℕ
  pub is : w ≡ digits * 2 ^ places
  pub short : digits < 2 ^ 53

-- Of all doubles g is the nearest to the root of a: the middle between g and any other, (g + w) / 2, lies on the other's side of the
-- root. It never lies on the root itself, so there are no ties.
pub record IsNearest (a g : ℕ) : Type 0 where
  pub over : (w : ℕ) → IsDouble w → g < w → 4 * (a * 2 ^ 1074) < (g + w) * (g + w)
  pub under : (w : ℕ) → IsDouble w → w < g → (g + w) * (g + w) < 4 * (a * 2 ^ 1074)

-- r is a double, and nearest to the root of a units
pub record Nearest (a : ℕ) (r : Float) : Type 0 where
  pub units : ℕ
  pub value : HasValue r false units (2 ^ 1074)
  pub nearest : IsNearest a units

-- THE ROOT: "the IEEE 754 one, nearest with ties to even, for every double": of every finite double above zero `root_of` is the nearest, and
-- every finite double that isn't negative is among those it was held against
pub record NearestOfAll : Type 0 where
  pub root : (m : ℕ) (e : ℤ) → T (fits binary64 (fin false (suc m) e)) → Nearest (units_of (suc m) e) (root_of (fin false (suc m) e))
  pub doubles : (y : Float) (w : ℕ) → T (fits binary64 y) → HasValue y false w (2 ^ 1074) → IsDouble w
