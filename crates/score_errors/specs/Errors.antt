-- The squared distances of a collection's results from what its scores let expect (document 02, W-210). Definitions only.
use Rattle.std.specs.Prelude.{◌&&◌, List, ℕ, ◌+◌, ◌-◌, ◌*◌, ◌^◌, ltb, ℤ}
use Rattle.refusal.specs.Answer.{Answer, given, refused, or_refuse}
use Rattle.refusal.specs.declared.Refusal.TheVariants as R
use Rattle.chess.specs.Named.{turned_for_black}
use Rattle.score.specs.Score.{Outcome, verdict, score}
use Rattle.score_expected.specs.Expected.{entry_in, table}
use Rattle.score_errors.specs.declared.Totals.{Totals}

-- "the squared distance from 0, 500,000 or 1,000,000", which are 0, 1 and 2 half points
abbrev pub apart_by : ℕ → ℕ → ℕ
apart_by a b = (a - b) + (b - a)

abbrev pub error_square : ℕ → ℕ → ℕ
error_square half expected = apart_by (500000 * half) expected * apart_by (500000 * half) expected

abbrev pub square_with : List ℕ → ℕ → ℤ → ℕ → ℕ
square_with t side z half = error_square half (entry_in t (turned_for_black side z))

-- a line with a score is summed; "22 MANY at the 1,000,001st of either kind or past 64 bits"
abbrev pub scored_of : Totals → ℕ → Answer Totals
scored_of totals square =
    or_refuse (ltb totals.scored 1000000 && ltb (totals.sum + square) (2 ^ 64)) R.Many
    (given (record { scored = totals.scored + 1; apart = totals.apart; sum = totals.sum + square }))

-- "lines with a verdict or `over` are counted apart"
abbrev pub apart_of : Totals → Answer Totals
apart_of totals =
    or_refuse (ltb totals.apart 1000000) R.Many (given (record { scored = totals.scored; apart = totals.apart + 1; sum = totals.sum }))

-- a line, by its answer, and by whatever table there is
abbrev pub counted_with : List ℕ → Totals → ℕ → Answer Outcome → ℕ → Answer Totals
counted_with t totals side (given (score z)) half = scored_of totals (square_with t side z half)
counted_with t totals side (given (verdict v)) half = apart_of totals
counted_with t totals side (refused number beside) half = apart_of totals

-- "Refusals: SHAPE, RESULT, 22 MANY"
abbrev pub added_with : List ℕ → Totals → ℕ → Answer Outcome → ℕ → Answer Totals
added_with t totals side answer half =
    or_refuse (ltb side 2) R.Shape (or_refuse (ltb half 3) R.Result (counted_with t totals side answer half))

-- a line more, by 02's table
abbrev pub totals_with : Totals → ℕ → Answer Outcome → ℕ → Answer Totals
totals_with = added_with table
