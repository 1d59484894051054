-- The ledger as a consumer of the line machine (line_cut/specs/Cut): what it keeps beside the lines, and what a line that ends does to it.
-- Definitions only.
use Rattle.std.specs.Prelude.{Bool, cond, not, List, [], ◌++◌, ℕ, ◌+◌}
use Rattle.refusal.specs.Answer.{Answer}
use Rattle.line_parse.specs.Line.{Line}
use Rattle.ledger_totals.specs.Totals.{last_row}
use Rattle.line_cut.specs.Cut.{Open, line_emptied, CutSoFar, run_by}
use Rattle.line_profile.specs.Under.{said_under}
use Rattle.line_profile.specs.declared.Profile.{Profile}
use Rattle.ledger_row.specs.Row.{row_of, is_loaded}
use Rattle.ledger_feed.specs.declared.SoFar.{SoFar}

pub record Machine : Type 0 where
  -- the line buffer, whole
  pub line : List ℕ
  -- how many bytes the unfinished line has, counted to 258
  pub held : ℕ
  -- its last byte is a CR
  pub cr : Bool
  pub loaded : ℕ
  pub refused : ℕ
  -- what was written
  pub text : List ℕ

abbrev pub at : SoFar → List ℕ → List ℕ → Machine
at state line text = record { line = line; held = state.held; cr = state.cr; loaded = state.loaded; refused = state.refused; text = text }

-- ---- its two parts: the unfinished line, and what is kept beside the lines
pub record Kept : Type 0 where
  pub loaded : ℕ
  pub refused : ℕ
  pub text : List ℕ

-- before the first line
abbrev pub no_rows : Kept
no_rows = record { loaded = 0; refused = 0; text = [] }

-- the rows, and the totals of the same lines
abbrev pub with_totals : Kept → List ℕ
with_totals rows = rows.text ++ last_row (rows.loaded + rows.refused) rows.loaded rows.refused

abbrev pub open_of : Machine → Open
open_of m = record { line = m.line; held = m.held; cr = m.cr }

abbrev pub kept_of : Machine → Kept
kept_of m = record { loaded = m.loaded; refused = m.refused; text = m.text }

abbrev pub machine_of : CutSoFar Kept → Machine
machine_of r = record {
  line = r.left.line;
  held = r.left.held;
  cr = r.left.cr;
  loaded = r.kept.loaded;
  refused = r.kept.refused;
  text = r.kept.text;
}

-- ---- the end of a line
-- one more where the test holds
abbrev pub tally : ℕ → Bool → ℕ
tally n holds = cond holds (n + 1) n

-- a row for the line, and one more loaded or refused
abbrev pub row_more : Kept → Answer Line → Kept
row_more rows said = record {
  loaded = tally rows.loaded (is_loaded said);
  refused = tally rows.refused (not (is_loaded said));
  text = rows.text ++ row_of (rows.loaded + rows.refused + 1) said;
}

-- by what the line says under the profile
abbrev pub close_row : Profile → Kept → List ℕ → ℕ → Kept
close_row profile rows line size = row_more rows (said_under profile line size)

abbrev pub close : Profile → Machine → ℕ → Machine
close profile m size = machine_of (record { left = line_emptied (open_of m); kept = close_row profile (kept_of m) m.line size })

-- the line machine, with the ledger as its consumer
abbrev pub run : Profile → Machine → List ℕ → Machine
run profile m s = machine_of (run_by (close_row profile) (open_of m) (kept_of m) s)
