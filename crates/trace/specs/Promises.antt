-- What `compute_trace` answers and promises, for all inputs. Definitions only.
use Rattle.std.specs.Prelude.{◌≡◌, List, ℕ, eqb, ℤ, length, Result, Ok, Err}
use Rattle.refusal.specs.Answer.{Answer, given, refused, or_refuse, refusal_of}
use Rattle.refusal.specs.declared.Refusal.TheVariants as R
use Rattle.position.specs.Checked.{checked}
use Rattle.position.specs.declared.State.{State}
use Rattle.trace_counts.specs.declared.Trace.{Trace}
use Rattle.trace.specs.Trace.{mobility_of, trace_of, entries_of, no_trace}
use Rattle.trace.specs.PrivateMarked.{trace_with}
use Rattle.trace.specs.declared.Traced.{Traced}
use Rattle.refusal.specs.declared.Refusal.{Refusal}

-- "trace ..: 1, 2": SHAPE, also if "not .. 768 trace entries", then OVERLAP, UNION, BYTEBOARD
abbrev pub traced_of : List ℕ → List ℕ → State → List ℤ → Answer Trace
traced_of bbs bytes state entries =
    or_refuse (eqb (length entries) 768) R.Shape (checked bbs bytes state (given (trace_of bbs state.side)))

-- the answer on the paper: an array can't stand in an enum, so the trace stands beside the test's outcome
abbrev pub paper_of : Result Unit Refusal → Trace → Answer Trace
paper_of (Ok tt) t = given t
paper_of (Err r) t = refusal_of r

abbrev pub paper : Traced → Answer Trace
paper r = paper_of r.checked r.trace

-- the trace that comes with an answer: where it is refused, no trace
abbrev pub trace_from : Answer Trace → Trace
trace_from (given t) = t
trace_from (refused n l) = no_trace

-- the entries after an answer: "a refusal .. changes no lent byte"
abbrev pub entries_after : Answer Trace → List ℕ → List ℤ → List ℤ
entries_after (given t) bbs entries = entries_of bbs
entries_after (refused n l) bbs entries = entries

abbrev pub Traces : List ℕ → List ℕ → State → List ℤ → Traced → List ℤ → Type 0
Traces bitboards board state before r after =
    (paper r ≡ traced_of bitboards board state before)
    × (r.trace ≡ trace_from (traced_of bitboards board state before))
    × (after ≡ entries_after (traced_of bitboards board state before) bitboards before)

-- what stands beside the entries, with any mobility
abbrev pub GathersTrace : List ℕ → ℕ → List ℤ → Trace → Type 0
GathersTrace bitboards side mobility r = r ≡ trace_with bitboards side mobility

abbrev pub GathersMobility : List ℕ → List ℤ → Type 0
GathersMobility bitboards r = r ≡ mobility_of bitboards
