-- What `compute_list` answers and promises, for all inputs: the list of what `compute_trace` gives. Definitions only.
use Rattle.std.specs.Prelude.{◌≡◌, List, ℕ}
use Rattle.refusal.specs.Answer.{Answer, given, refused}
use Rattle.position.specs.Checked.{checked}
use Rattle.position.specs.declared.State.{State}
use Rattle.score_material.specs.Pieces.{pieces}
use Rattle.trace_counts.specs.declared.Trace.{Trace}
use Rattle.trace.specs.Trace.{trace_of, entries_of}
use Rattle.trace.specs.Promises.{paper_of, trace_from}
use Rattle.trace_list.specs.Form.{ones_in, list_bytes}
use Rattle.trace_list_computed.specs.declared.ListTraced.{ListTraced}

-- as the trace: SHAPE, then what is at odds (14 to 16); never ENTRY (trace_list_same: `OfPositions`)
abbrev pub list_traced_of : List ℕ → List ℕ → State → Answer Trace
list_traced_of bbs board state = checked bbs board state (given (trace_of bbs state.side))

-- how many entries are used: one for each piece, and none beside a refusal
abbrev pub used_after : Answer Trace → List ℕ → ℕ
used_after (given t) bbs = pieces bbs
used_after (refused n l) bbs = 0

-- the list after an answer: that of the trace's entries; "a refusal .. changes no lent byte"
abbrev pub list_after : Answer Trace → List ℕ → List ℕ → List ℕ
list_after (given t) bbs bytes = list_bytes (ones_in (entries_of bbs))
list_after (refused n l) bbs bytes = bytes

pub record ComputesList (bbs board : List ℕ) (state : State) (before : List ℕ) (r : ListTraced) (after : List ℕ) : Type 0 where
  pub answer : paper_of r.checked r.trace ≡ list_traced_of bbs board state
  pub trace : r.trace ≡ trace_from (list_traced_of bbs board state)
  pub used : r.used ≡ used_after (list_traced_of bbs board state) bbs
  pub lent : after ≡ list_after (list_traced_of bbs board state) bbs before
