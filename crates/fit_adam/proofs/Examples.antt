-- Worked examples, by computation: the first step of a weight of 304 whose gradient is 1, at rate 1, and which numbers are iterations. Assumes nothing.
use mathlib.Core.Path.{◌≡◌, refl}
use mathlib.Core.Bool.{true, false}
use mathlib.Core.List.{[], ◌∷◌}
use lib.Ieee.{binary64, of_bits, round, add, sub, mul, div}
use Rattle.doubles.specs.Doubles.{d0, d1}
use Rattle.fit_root.specs.Root.{root_of}
use Rattle.fit_adam.specs.Adam.{beta1, beta2, power, first_moment, second_moment, weight_moved}
use Rattle.fit_adam.specs.Promises.{is_iteration}

-- 0.09999999999999998, and not 0.1
first : first_moment d0 d1 ≡ of_bits binary64 0x3fb9_9999_9999_9998
unfolding first_moment of_bits add sub mul round
first = refl

-- 0.0010000000000000009, and not 0.001
second : second_moment d0 d1 ≡ of_bits binary64 0x3f50_624d_d2f1_aa00
unfolding second_moment of_bits add sub mul round
second = refl

weight : weight_moved (power beta1 1) (power beta2 1) d1 (first_moment d0 d1) (second_moment d0 d1) (of_bits binary64 0x4073_0000_0000_0000)
    ≡ of_bits binary64 0x4072_f000_0002_af32
unfolding weight_moved power first_moment second_moment root_of of_bits add sub mul div round
weight = refl

-- "an iteration number of zero or above 1,000,000"
iterations : is_iteration 0 ∷ is_iteration 1 ∷ is_iteration 1000000 ∷ is_iteration 1000001 ∷ [] ≡ false ∷ true ∷ true ∷ false ∷ []
iterations = refl
