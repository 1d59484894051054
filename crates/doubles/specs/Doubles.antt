-- Doubles: each `⊕ ⊖ ⊗ ⊘` is one operation of IEEE 754, rounded to nearest with ties to even; there is one `nan`. Definitions only.
use Rattle.std.specs.Prelude.{ℤ, Float}
use Rattle.std.specs.Float.{binary64}
use Rattle.std.specs.Float.Ieee.{add, sub, mul, div, of_int, of_bits}

abbrev pub ◌⊕◌ : Float → Float → Float
x ⊕ y = add binary64 x y

abbrev pub ◌⊖◌ : Float → Float → Float
x ⊖ y = sub binary64 x y

abbrev pub ◌⊗◌ : Float → Float → Float
x ⊗ y = mul binary64 x y

abbrev pub ◌⊘◌ : Float → Float → Float
x ⊘ y = div binary64 x y

infixl 6 ◌⊕◌
infixl 6 ◌⊖◌
infixl 7 ◌⊗◌
infixl 7 ◌⊘◌
-- a whole number as a double
abbrev pub dbl : ℤ → Float
dbl z = of_int binary64 z

-- 0, 1, -1, 2, 10 and 32, by their bits
abbrev pub d0 : Float
d0 = of_bits binary64 0

abbrev pub d1 : Float
d1 = of_bits binary64 0x3ff0_0000_0000_0000

abbrev pub minus1 : Float
minus1 = of_bits binary64 0xbff0_0000_0000_0000

abbrev pub d2 : Float
d2 = of_bits binary64 0x4000_0000_0000_0000

abbrev pub d10 : Float
d10 = of_bits binary64 0x4024_0000_0000_0000

abbrev pub d32 : Float
d32 = of_bits binary64 0x4040_0000_0000_0000
