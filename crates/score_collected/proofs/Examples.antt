-- Worked examples of the definitions, by computation: document 01's collection with a line more. Assumes nothing.
use mathlib.Core.Path.{◌≡◌, refl}
use mathlib.Core.List.{List}
use Prim.Native.Nat.{ℕ}
use Rattle.laws.specs.Tables.{tabulate}
use Rattle.refusal.specs.Answer.{Answer, given}
use Rattle.text_in.specs.Text.{text, every, holds, before, after, without, without_last, trim, place_in}
use Rattle.line_ranks.specs.Ranks.{are_ranks, stacked}
use Rattle.line_tail.specs.Words.{nth_word}
use Rattle.line_tail.specs.Tail.{rights_fit, passant_fits, counters_fit_fields, state_said}
use Rattle.line_parse.specs.Line.{fields_say, line_of}
use Rattle.line_cut.specs.Lines.{ends_in_cr, lines_from}
use Rattle.position_boards.specs.Boards.{bitboards_of}
use Rattle.score.specs.Score.{score_of}
use Rattle.score_expected.specs.Expected.{table}
use Rattle.score_errors.specs.Collection.{scored_in, apart_in, sum_in}
use Rattle.score_errors.specs.declared.Totals.{Totals}
use Rattle.ledger_whole.specs.Ledger.{refused_in}
use Rattle.score_collected.specs.Collected.{shown_in, collected_of}

-- scores 117 with White to move and a win, −95 with Black to move and a draw; a verdict; a line with no result
collected : List ℕ → Answer (Totals × ℕ)
unfolding lines_from ends_in_cr shown_in scored_in apart_in sum_in refused_in table line_of fields_say every holds before after without without_last trim place_in
    are_ranks stacked nth_word rights_fit passant_fits counters_fit_fields state_said score_of tabulate bitboards_of
collected input = collected_of input

paper :
    collected (text "4k3/8/8/8/8/8/4P3/4K3 w - - 0 1;1-0\n8/8/8/8/8/8/8/8 w;1/2-1/2\n4k3/8/8/8/8/8/4P3/4K3 b;1/2-1/2\n4k3/8/8/8/8/8/4P3/4K3 b;1/2\n")
    ≡ given (record { scored = 2; apart = 1; sum = 131662932545 }, 1)
unfolding collected
paper = refl
