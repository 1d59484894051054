-- The tool that tells exchanges as a consumer of the line machine (line_cut/specs/Cut): what it keeps beside the lines is what a ledger keeps, where a question
-- that is told counts as loaded. Definitions only.
use Rattle.std.specs.Prelude.{not, List, ◌++◌, ℕ, ◌+◌}
use Rattle.refusal.specs.Answer.{Answer}
use Rattle.exchange_start.specs.declared.Mode.{Mode}
use Rattle.exchange.specs.Exchange.{Capture}
use Rattle.line_cut.specs.Cut.{run_by, end_by}
use Rattle.ledger_row.specs.Row.{is_loaded}
use Rattle.ledger_feed.specs.Machine.{Machine, Kept, open_of, kept_of, machine_of, tally}
use Rattle.captures_row.specs.Rows.{counts_row}
use Rattle.captures_close.specs.Answered.{answer_rows, held_answer}

-- the rows of the question, and one more told or refused
abbrev pub told_more : Kept → Answer (List Capture) → Kept
told_more rows said = record {
  loaded = tally rows.loaded (is_loaded said);
  refused = tally rows.refused (not (is_loaded said));
  text = rows.text ++ answer_rows (rows.loaded + rows.refused + 1) said;
}

abbrev pub close_told : Mode → Kept → List ℕ → ℕ → Kept
close_told mode rows line size = told_more rows (held_answer mode line size)

-- the line machine, with the tool as its consumer
abbrev pub run_told : Mode → Machine → List ℕ → Machine
run_told mode m s = machine_of (run_by (close_told mode) (open_of m) (kept_of m) s)

-- ---- the end of the input: an unfinished question is answered, and the last row counts
abbrev pub ended_told : Mode → Machine → Kept
ended_told mode m = end_by (close_told mode) (record { left = open_of m; kept = kept_of m })

abbrev pub last_told : Kept → List ℕ
last_told rows = rows.text ++ counts_row (rows.loaded + rows.refused) rows.loaded rows.refused

abbrev pub finished_told : Mode → Machine → List ℕ
finished_told mode m = last_told (ended_told mode m)
