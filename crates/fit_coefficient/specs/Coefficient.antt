-- A line's coefficient by the table of expected scores (W-210's), in the order of operations of `compute_gradient` (document 02, W-211), one rounding
-- for each. The sentences are those of docs/DECISIONS.md. Definitions only.
use Rattle.std.specs.Prelude.{ℕ, ◌+◌, ◌-◌, ◌*◌, ◌/◌, Bool, true, false, cond, ℤ, pos, negsuc, neg_ℤ, from_bits, Float}
use Rattle.std.specs.Float.{nan, inf, fin, binary64}
use Rattle.std.specs.Float.Ieee.{up, down}
use Rattle.doubles.specs.Doubles.{◌⊖◌, ◌⊗◌, ◌⊘◌, dbl, d1, d2}
use Rattle.score_expected.specs.Expected.{expected_of}

-- ln 10, 400, a million and −2, by their bits
abbrev pub ln10 : Float
ln10 = from_bits binary64 0x4002_6bb1_bbb5_5516

abbrev pub d400 : Float
d400 = from_bits binary64 0x4079_0000_0000_0000

abbrev pub d1000000 : Float
d1000000 = from_bits binary64 0x412e_8480_0000_0000

abbrev pub minus2 : Float
minus2 = from_bits binary64 0xc000_0000_0000_0000

-- "rounded down to a whole number": n/d, and n/d below zero, d being above 0
abbrev pub rounded_down : Bool → ℕ → ℕ → ℤ
rounded_down false n d = pos (n / d)
rounded_down true n d = neg_ℤ (pos ((n + (d - 1)) / d))

-- "an infinity counts as the table's end on its side": −1600, or 1600
abbrev pub table_end : Bool → ℤ
table_end below = cond below (negsuc 1599) (pos 1600)

-- "s = entry/10^6": what a score lets expect, in points; a score outside the table's range counts as its end (`expected_of`)
unfoldable pub expected_points : ℤ → Float
expected_points score = dbl (pos (expected_of score)) ⊘ d1000000

-- what a double lets expect: "rounded down .., a NaN stays a NaN"
unfoldable pub points_at : Float → Float
unfolding expected_points
points_at nan = nan
points_at (inf below) = expected_points (table_end below)
points_at (fin below m e) = expected_points (rounded_down below (m * up e) (down e))

-- error = wdl - s, where wdl is 0, 0.5 or 1 for 0, 1 or 2 half points
abbrev pub error_of : Float → ℕ → Float
error_of s half = dbl (pos half) ⊘ d2 ⊖ s

-- dsigmoid_deval = s * (1.0 - s) * k * ln(10) / 400.0
abbrev pub slope_of : Float → Float → Float
slope_of s k = s ⊗ (d1 ⊖ s) ⊗ k ⊗ ln10 ⊘ d400

-- coefficient = -2.0 * error * dsigmoid_deval / n
unfoldable pub coefficient_of : Float → ℕ → Float → ℕ → Float
coefficient_of s half k lines = minus2 ⊗ error_of s half ⊗ slope_of s k ⊘ dbl (pos lines)
