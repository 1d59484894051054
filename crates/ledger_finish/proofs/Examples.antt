-- Worked examples of the definitions, by computation: a last line with no LF, and none. Assumes nothing.
use mathlib.Core.Path.{◌≡◌, refl}
use mathlib.Core.Bool.{false}
use mathlib.Core.List.{List, [], ◌∷◌}
use Prim.Native.Nat.{ℕ}
use lib.ListN.{replicate}
use Rattle.laws.specs.Tables.{tabulate}
use Rattle.text_in.specs.Text.{text, every, holds, before, after, without, without_last, trim, place_in}
use Rattle.line_ranks.specs.Ranks.{are_ranks, stacked}
use Rattle.line_tail.specs.Words.{nth_word}
use Rattle.line_tail.specs.Tail.{rights_fit, passant_fits, counters_fit_fields, state_said}
use Rattle.line_parse.specs.Line.{fields_say, line_of}
use Rattle.position_boards.specs.Boards.{bitboards_of}
use Rattle.score.specs.Score.{score_of}
use Rattle.text_out.specs.Text.{digits_up_to}
use Rattle.ledger_row.specs.Row.{loaded_row, refused_row}
use Rattle.ledger_totals.specs.Totals.{last_row}
use Rattle.line_cut.specs.Cut.{run_by}
use Rattle.line_profile.specs.declared.Profile.TheVariants as P
use Rattle.ledger_feed.specs.Machine.{run}
use Rattle.ledger_feed.proofs.Examples.{long}
use Rattle.ledger_finish.specs.Last.{finished}

-- over a buffer that held other bytes: the CR of a last line with no LF is kept, and makes 257 bytes of 256
written : List ℕ → List ℕ
unfolding run_by finished line_of fields_say every holds before after without without_last trim place_in are_ranks stacked nth_word rights_fit passant_fits
    counters_fit_fields state_said score_of tabulate bitboards_of loaded_row refused_row last_row digits_up_to
written input = finished P.Any (run P.Any (record { line = replicate 256 7; held = 0; cr = false; loaded = 0; refused = 0; text = [] }) input)

boundaries :
    written (long 235 []) ∷ written (long 235 (text "\r")) ∷ written (text "\n") ∷ written [] ∷ []
    ≡ text "1 2 lost\nlines 1 loaded 1 refused 0\n" ∷ text "1 refused 8\nlines 1 loaded 0 refused 1\n"
    ∷ text "1 refused 10\nlines 1 loaded 0 refused 1\n" ∷ text "lines 0 loaded 0 refused 0\n" ∷ []
unfolding written
boundaries = refl
