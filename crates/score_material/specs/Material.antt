-- Material (document 01, "The score"). Definitions only.
use Rattle.std.specs.Prelude.{cond, List, ℕ, ◌+◌, ◌*◌, leb, ℤ, pos}
use Rattle.laws.specs.Sums.{sum_n}
use Rattle.laws.specs.Tables.{tabulate}
use Rattle.refusal.specs.Answer.{Answer, given, or_refuse}
use Rattle.chess.specs.Codes.{is_piece, kind_of}
use Rattle.chess.specs.Values.{value_of}
use Rattle.chess.specs.Named.{bishop}
use Rattle.refusal.specs.declared.Refusal.TheVariants as R
use Rattle.position.specs.Checked.{checked}
use Rattle.position.specs.declared.State.{State}
use Rattle.attack.specs.Answers.{with_colour}
use Rattle.score_material.specs.Pieces.{count}

-- what each kind is worth, by code, for both colours; codes 0 and 1 have none
unfoldable pub piece_values : List ℕ
unfolding tabulate
piece_values = tabulate 14 (λ code. cond (is_piece code) (value_of (kind_of code)) 0)

-- what a colour's pieces are worth, as `eval_material` counts
unfoldable pub worth : List ℕ → ℕ → ℕ
unfolding sum_n count
worth bbs colour = sum_n 6 (λ kind. count bbs kind colour * value_of kind)

-- "two or more bishops of a colour": 1, else 0
unfoldable pub pair : List ℕ → ℕ → ℕ
unfolding count
pair bbs colour = cond (leb 2 (count bbs bishop colour)) 1 0

-- "33 more for two or more bishops of a colour (not in `eval_material`)"
abbrev pub pair_value : ℕ
pair_value = 33

unfoldable pub material : List ℕ → ℕ → ℕ
unfolding worth pair
material bbs colour = worth bbs colour + pair bbs colour * pair_value

-- "`eval_material` gives SCORE exactly if its total is above 32767", after SHAPE, OVERLAP, UNION and BYTEBOARD
unfoldable pub material_of : List ℕ → List ℕ → State → ℕ → Answer ℤ
unfolding checked worth
material_of bbs bytes state colour =
    let total : ℕ = worth bbs colour in
    with_colour colour (checked bbs bytes state (or_refuse (leb total 32767) R.Score (given (pos total))))
