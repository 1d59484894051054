-- A collection sifted, as a consumer of the line machine (line_cut/specs/Cut), by whatever is made of a loaded line: what is kept beside the lines,
-- and what a line that ends does to it. Definitions only.
use Rattle.std.specs.Prelude.{not, List, [], ◌++◌, ℕ, ◌+◌}
use Rattle.refusal.specs.Answer.{Answer}
use Rattle.line_parse.specs.Line.{Line}
use Rattle.line_cut.specs.Cut.{Open, CutSoFar, run_by}
use Rattle.line_held.specs.Held.{said_of}
use Rattle.ledger_row.specs.Row.{is_loaded}
use Rattle.ledger_feed.specs.Machine.{tally}
use Rattle.ledger_feed.specs.declared.SoFar.{SoFar}
use Rattle.sift_close.specs.Ended.{made_by_rule, refused_row_of}

pub record Sifting : Type 0 where
  pub loaded : ℕ
  pub refused : ℕ
  -- what was made of the loaded lines
  pub made : List ℕ
  -- the rows of the refused ones
  pub rows : List ℕ

-- a line more: one more loaded, and what is made of it; or one more refused, and its row
abbrev pub sift_more : (Line → List ℕ) → Sifting → Answer Line → Sifting
sift_more make s said = record {
  loaded = tally s.loaded (is_loaded said);
  refused = tally s.refused (not (is_loaded said));
  made = s.made ++ made_by_rule make said;
  rows = s.rows ++ refused_row_of (s.loaded + s.refused + 1) said;
}

abbrev pub close_sift : (Line → List ℕ) → Sifting → List ℕ → ℕ → Sifting
close_sift make s line size = sift_more make s (said_of line size)

-- before a chunk: the lines so far are counted, and nothing is written yet
abbrev pub sifting_at : SoFar → Sifting
sifting_at state = record { loaded = state.loaded; refused = state.refused; made = []; rows = [] }

abbrev pub open_at : SoFar → List ℕ → Open
open_at state line = record { line = line; held = state.held; cr = state.cr }

-- the line machine, with the sifting as its consumer
abbrev pub sift_run : (Line → List ℕ) → SoFar → List ℕ → List ℕ → CutSoFar Sifting
sift_run make state line chunk = run_by (close_sift make) (open_at state line) (sifting_at state) chunk

abbrev pub so_far_in : CutSoFar Sifting → SoFar
so_far_in r = record { held = r.left.held; cr = r.left.cr; loaded = r.kept.loaded; refused = r.kept.refused }
