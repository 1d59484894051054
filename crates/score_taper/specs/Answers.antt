-- The code's answers on the paper, and what each function promises. Definitions only.
use Rattle.std.specs.Prelude.{◌≡◌, ◌&&◌, ℕ, ℤ, pos, neg_ℤ, ◌+ℤ◌, Option, None, Some}
use Rattle.std.specs.Int.Signed.{quot_z}
use Rattle.refusal.specs.Answer.{Answer, given, or_refuse, refusal_of}
use Rattle.refusal.specs.declared.Refusal.TheVariants as R
use Rattle.score_taper.specs.Parts as P
use Rattle.score_taper.specs.declared.Side.{Side}

abbrev pub points : Option ℤ → Answer ℤ
points (Some z) = given z
points None = refusal_of R.Score

abbrev pub part : Option ℤ → Answer ℤ
part (Some z) = given z
part None = refusal_of R.Score

-- two products, their sum, and its quotient
abbrev pub divided_of : ℤ → ℤ → Answer ℤ
divided_of a b = or_refuse (P.in16 a && P.in16 b && P.in16 (a +ℤ b)) R.Score (given (quot_z (a +ℤ b) (neg_ℤ (pos 30))))

-- three differences, and the tempo
abbrev pub joined_of : ℤ → ℤ → ℤ → Answer ℤ
joined_of p m q =
    or_refuse (P.in16 (p +ℤ m) && P.in16 (p +ℤ m +ℤ q) && P.in16 (p +ℤ m +ℤ q +ℤ pos P.tempo_value)) R.Score (given (p +ℤ m +ℤ q +ℤ pos P.tempo_value))

-- a side's part, or SCORE for what is the side's alone
abbrev pub brought_of : Side → ℕ → Answer ℤ
brought_of side x = or_refuse (P.side_fits side x) R.Score (given (P.side_part side x))

abbrev pub Scores : Side → Side → ℕ → Option ℤ → Type 0
Scores own other x r = points r ≡ P.points_of own other x
