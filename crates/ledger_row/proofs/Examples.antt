-- Worked examples of the definitions, by computation: document 01's rows of lines. Assumes nothing.
use mathlib.Core.Path.{◌≡◌, refl}
use mathlib.Core.List.{List, [], ◌∷◌}
use Prim.Native.Nat.{ℕ}
use Prim.Native.String.{String}
use lib.IntN.{negsuc}
use Rattle.laws.specs.Tables.{tabulate}
use Rattle.refusal.specs.Answer.{given, refused}
use Rattle.text_in.specs.Text.{text, every, holds, before, after, without, without_last, trim, place_in}
use Rattle.line_ranks.specs.Ranks.{are_ranks, stacked}
use Rattle.line_tail.specs.Words.{nth_word}
use Rattle.line_tail.specs.Tail.{rights_fit, passant_fits, counters_fit_fields, state_said}
use Rattle.line_parse.specs.Line.{fields_say, line_of}
use Rattle.position_boards.specs.Boards.{bitboards_of}
use Rattle.score_verdict.specs.Verdict.{won, drawn}
use Rattle.score.specs.Score.{verdict, score, score_of}
use Rattle.text_out.specs.Text.{digits_up_to}
use Rattle.ledger_row.specs.Row.{row_of, loaded_row, refused_row}

row : ℕ → String → List ℕ
unfolding line_of fields_say every holds before after without without_last trim place_in are_ranks stacked nth_word rights_fit passant_fits counters_fit_fields
    state_said score_of tabulate bitboards_of loaded_row refused_row digits_up_to
row number line = row_of number (line_of (text line))

paper :
    row 1 "4k3/8/8/8/8/8/4P3/4K3 w - - 0 1;1-0" ∷ row 2 "8/8/8/8/8/8/8/8 w;1/2-1/2" ∷ row 3 "4k3/8/8/8/8/8/4P3/4K3 b;1/2" ∷ []
    ≡ text "1 2 117\n" ∷ text "2 1 lost\n" ∷ text "3 refused 13\n" ∷ []
unfolding row
paper = refl

-- for the side to move: −95 with Black to move; and the words
others :
    loaded_row 10 0 (given (score (negsuc 94))) ∷ loaded_row 9 0 (given (verdict won)) ∷ loaded_row 8 1 (given (verdict drawn)) ∷ loaded_row 7 2 (refused 3 []) ∷ []
    ≡ text "10 0 -95\n" ∷ text "9 0 won\n" ∷ text "8 1 drawn\n" ∷ text "7 2 over\n" ∷ []
unfolding loaded_row digits_up_to
others = refl
