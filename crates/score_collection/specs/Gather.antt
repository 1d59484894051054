-- What a line that ended does to a collection's totals (document 02, W-210). Definitions only.
use Rattle.std.specs.Prelude.{true, cond, List, ℕ, ◌+◌, ◌^◌, ltb}
use Rattle.refusal.specs.Answer.{Answer, given, refused}
use Rattle.position_boards.specs.Boards.{bitboards_of}
use Rattle.line_parse.specs.Line.{Line}
use Rattle.score.specs.Score.{score_of}
use Rattle.score_expected.specs.Expected.{table}
use Rattle.score_errors.specs.Errors.{added_with}
use Rattle.score_errors.specs.declared.Totals.{Totals}
use Rattle.score_collection.specs.declared.Sum.{Sum}

-- a refused line is counted, while 64 bits hold the count
abbrev pub refused_more : Sum → Sum
refused_more sum =
    cond (ltb (sum.refused + 1) (2 ^ 64)) (record { totals = sum.totals; refused = sum.refused + 1; full = sum.full })
    (record { totals = sum.totals; refused = sum.refused; full = true })

-- a loaded line is added, or there was no room for it
abbrev pub noted : Sum → Answer Totals → Sum
noted sum (given totals) = record { totals = totals; refused = sum.refused; full = sum.full }
noted sum (refused number beside) = record { totals = sum.totals; refused = sum.refused; full = true }

-- a line, by what it says and any table
abbrev pub line_by : List ℕ → Sum → Answer Line → Sum
line_by t sum (given l) = noted sum (added_with t sum.totals l.state.side (score_of (bitboards_of l.board) l.state) l.half)
line_by t sum (refused number beside) = refused_more sum

-- by 02's table
abbrev pub line_more : Sum → Answer Line → Sum
line_more = line_by table
