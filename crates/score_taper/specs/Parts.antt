-- The score's arithmetic, as document 01 says it ("The score"): a side's part, both sides' sum, and which steps SCORE is about.
-- x is the number of pieces. Definitions only.
use Rattle.std.specs.Prelude.{Bool, ◌&&◌, ℕ, ◌/◌, leb, ltb, ℤ, pos, neg_ℤ, ◌+ℤ◌, ◌-ℤ◌, ◌*ℤ◌}
use Rattle.std.specs.Int.Signed.{mag, quot_z}
use Rattle.refusal.specs.Answer.{Answer, given, or_refuse}
use Rattle.refusal.specs.declared.Refusal.TheVariants as R
use Rattle.score_taper.specs.declared.Side.{Side}

-- "plus 11"
abbrev pub tempo_value : ℕ
tempo_value = 11

-- −32768 ≤ z ≤ 32767
abbrev pub in16 : ℤ → Bool
in16 z = ltb (mag z) 32768

-- "With y0 opening and y1 ending": y0·(2−x)
abbrev pub opening_product : ℤ → ℕ → ℤ
opening_product y0 x = y0 *ℤ (pos 2 -ℤ pos x)

-- y1·(x−32)
abbrev pub ending_product : ℤ → ℕ → ℤ
ending_product y1 x = y1 *ℤ (pos x -ℤ pos 32)

abbrev pub products_of : ℤ → ℤ → ℕ → ℤ
products_of y0 y1 x = opening_product y0 x +ℤ ending_product y1 x

-- "a side's part is (y0·(2−x) + y1·(x−32)) / (−30), truncated toward zero, each side by itself"
abbrev pub part_of : ℤ → ℤ → ℕ → ℤ
part_of y0 y1 x = quot_z (products_of y0 y1 x) (neg_ℤ (pos 30))

abbrev pub side_part : Side → ℕ → ℤ
side_part side x = part_of side.opening side.ending x

-- "a colour's material or mobility sum; either product or the sum of products for a side"
abbrev pub side_fits : Side → ℕ → Bool
side_fits side x =
    leb side.material 32767 && leb side.mobility 32767
    && in16 (opening_product side.opening x) && in16 (ending_product side.ending x) && in16 (products_of side.opening side.ending x)

-- "Score = own minus other square weights, plus own minus other material, plus own minus other mobility, plus 11": the sum after each of its
-- three additions, "in the order just given"; "The three differences are formed first"
abbrev pub first : Side → Side → ℕ → ℤ
first own other x = (side_part own x -ℤ side_part other x) +ℤ (pos own.material -ℤ pos other.material)

abbrev pub second : Side → Side → ℕ → ℤ
second own other x = first own other x +ℤ (pos (own.mobility / 10) -ℤ pos (other.mobility / 10))

abbrev pub total : Side → Side → ℕ → ℤ
total own other x = second own other x +ℤ pos tempo_value

-- "; the final sum after any of its three additions"
abbrev pub sum_fits_rule : Side → Side → ℕ → Bool
sum_fits_rule own other x = in16 (first own other x) && in16 (second own other x) && in16 (total own other x)

-- "SCORE is given exactly if .. one of these leaves −32768..32767"
abbrev pub points_of : Side → Side → ℕ → Answer ℤ
points_of own other x =
    or_refuse (side_fits own x && side_fits other x && sum_fits_rule own other x) R.Score (given (total own other x))
