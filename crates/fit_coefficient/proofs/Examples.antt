-- Worked examples of the definitions, by computation. Assumes nothing.
use Rattle.std.proofs.Common.{◌≡◌, ℕ, true, false, [], ◌∷◌, pos, negsuc, refl}
use lib.Ieee.{Float, nan, inf, binary64, of_bits, of_int, round, add, sub, mul, div}
use Rattle.doubles.specs.Doubles.{d1}
use Rattle.score_expected.specs.Expected.{table}
use Rattle.fit_coefficient.specs.Coefficient.{rounded_down, points_at, coefficient_of}
use Rattle.fit_coefficient.specs.Promises.{share_of}

abbrev bits : ℕ → Float
bits b = of_bits binary64 b

-- 117 1/2 counts as 117; −1/2 as −1, and −1600 as itself
downward : rounded_down false 235 2 ∷ rounded_down true 1 2 ∷ rounded_down true 1600 1 ∷ [] ≡ pos 117 ∷ negsuc 0 ∷ negsuc 1599 ∷ []
downward = refl

-- the least double below zero lets expect 0.494243, as −1/2 does and −4 would; −0 lets expect 0.5
near_zero : points_at (bits 0x8000_0000_0000_0001) ∷ points_at (bits 0xbfe0_0000_0000_0000) ∷ points_at (bits 0x8000_0000_0000_0000) ∷ []
    ≡ bits 0x3fdf_a1ad_6451_b930 ∷ bits 0x3fdf_a1ad_6451_b930 ∷ bits 0x3fe0_0000_0000_0000 ∷ []
unfolding points_at table of_bits of_int round div
near_zero = refl

-- 5000 and an infinity let expect 0.9999, an infinity below zero 0.000099; a NaN stays one
ends : points_at (bits 0x40b3_8800_0000_0000) ∷ points_at (inf false) ∷ points_at (inf true) ∷ points_at nan ∷ []
    ≡ bits 0x3fef_ff2e_48e8_a71e ∷ bits 0x3fef_ff2e_48e8_a71e ∷ bits 0x3f19_f3c7_0c99_6b76 ∷ nan ∷ []
unfolding points_at table of_bits of_int round div
ends = refl

-- the worked position of document 01 whose score is 117, won, K 1, one line: 0.660999 and −0.0008745576722974041
won : share_of (bits 0x405d_4000_0000_0000) 2 d1 1 ≡ record { expected = bits 0x3fe5_26e7_5ff6_09dd; coefficient = bits 0xbf4c_a852_4ced_04c8 }
unfolding points_at coefficient_of table of_bits of_int round add sub mul div
won = refl

-- 117.5 at K = 1.3 among 100,000 lines: 1.3 times it is 152.75, which counts as 152
scaled : share_of (bits 0x405d_6000_0000_0000) 2 (bits 0x3ff4_cccc_cccc_cccd) 100000
    ≡ record { expected = bits 0x3fe6_95c2_0924_6bf0; coefficient = bits 0xbe43_a304_19c7_f7de }
unfolding points_at coefficient_of table of_bits of_int round add sub mul div
scaled = refl
