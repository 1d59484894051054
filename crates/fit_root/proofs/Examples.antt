-- Worked examples of the definition, by computation. Assumes nothing.
use Rattle.std.proofs.Common.{◌≡◌, ℕ, refl}
use lib.Ieee.{Float, nan, binary64, of_bits, round}
use Rattle.fit_root.specs.Root.{root_of}

abbrev d : ℕ → Float
d bits = of_bits binary64 bits

-- 4, 2, the least double, the least that has 53 digits, the largest, the next after 1
four : root_of (d 0x4010_0000_0000_0000) ≡ d 0x4000_0000_0000_0000
unfolding root_of of_bits round
four = refl

two : root_of (d 0x4000_0000_0000_0000) ≡ d 0x3ff6_a09e_667f_3bcd
unfolding root_of of_bits round
two = refl

least : root_of (d 1) ≡ d 0x1e60_0000_0000_0000
unfolding root_of of_bits round
least = refl

largest : root_of (d 0x7fef_ffff_ffff_ffff) ≡ d 0x5fef_ffff_ffff_ffff
unfolding root_of of_bits round
largest = refl

next : root_of (d 0x3ff0_0000_0000_0001) ≡ d 0x3ff0_0000_0000_0000
unfolding root_of of_bits round
next = refl

-- -0, -1, both infinities
zero_below : root_of (d 0x8000_0000_0000_0000) ≡ d 0x8000_0000_0000_0000
unfolding root_of of_bits
zero_below = refl

below : root_of (d 0xbff0_0000_0000_0000) ≡ nan
unfolding root_of of_bits
below = refl

endless : root_of (d 0x7ff0_0000_0000_0000) ≡ d 0x7ff0_0000_0000_0000
unfolding root_of of_bits
endless = refl

endless_below : root_of (d 0xfff0_0000_0000_0000) ≡ nan
unfolding root_of of_bits
endless_below = refl
