-- Worked examples of the definitions, by computation: the machine at each boundary of a line's length. Assumes nothing.
use mathlib.Core.Path.{◌≡◌, refl}
use mathlib.Core.Bool.{false}
use mathlib.Core.List.{List, [], ◌++◌}
use Prim.Native.Nat.{ℕ}
use lib.ListN.{replicate}
use Rattle.laws.specs.Tables.{tabulate}
use Rattle.text_in.specs.Text.{text, every, holds, before, after, without, without_last, trim, place_in}
use Rattle.line_ranks.specs.Ranks.{are_ranks, stacked}
use Rattle.line_tail.specs.Words.{nth_word}
use Rattle.line_tail.specs.Tail.{rights_fit, passant_fits, counters_fit_fields, state_said}
use Rattle.line_parse.specs.Line.{fields_say, line_of}
use Rattle.position_boards.specs.Boards.{bitboards_of}
use Rattle.score.specs.Score.{score_of}
use Rattle.text_out.specs.Text.{digits_up_to}
use Rattle.ledger_row.specs.Row.{loaded_row, refused_row}
use Rattle.line_cut.specs.Cut.{run_by}
use Rattle.line_profile.specs.declared.Profile.TheVariants as P
use Rattle.ledger_feed.specs.Machine.{run}

-- over a buffer that held other bytes: 256 bytes are read, with CR LF too; 257 are LONG, and so is any longer line
written : List ℕ → List ℕ
unfolding run_by line_of fields_say every holds before after without without_last trim place_in are_ranks stacked nth_word rights_fit passant_fits
    counters_fit_fields state_said score_of tabulate bitboards_of loaded_row refused_row digits_up_to
written input = (run P.Any (record { line = replicate 256 7; held = 0; cr = false; loaded = 0; refused = 0; text = [] }) input).text

abbrev pub long : ℕ → List ℕ → List ℕ
long spaces ending = text "8/8/8/8/8/8/8/8 w;1-0" ++ (replicate spaces 32 ++ ending)

boundaries :
    written (long 235 (text "\r\n") ++ (long 236 (text "\r\n") ++ (long 237 (text "\r\n") ++ long 236 (text "\n"))))
    ≡ text "1 2 lost\n2 refused 8\n3 refused 8\n4 refused 8\n"
unfolding written
boundaries = refl
