-- What each door of a trace's list promises, for all inputs: the number that comes back and every lent number afterwards. Definitions only.
use Rattle.std.specs.Prelude.{◌≡◌, List, ℕ, Float, ℤ}
use Rattle.score_material.specs.Pieces.{pieces}
use Rattle.trace_counts.specs.declared.Trace.{Trace}
use Rattle.trace_list_double.specs.Promises.{list_double_of}
use Rattle.trace_list_turn.specs.Promises.{listed_of, bytes_after_rule, flattened_of}
use Rattle.trace_list_computed.specs.Promises.{list_traced_of, list_after}
use Rattle.fit_gradient.specs.Lists.{list_added_of}
use Rattle.abi_codes.specs.Codes.{answer_number, lent_after, Door, as_it_is}
use Rattle.abi_records.specs.Records.{counts_of_rule, trace_of_numbers, weights_of}
use Rattle.abi_codes.specs.declared.Code.{Code}
use Rattle.abi_states.specs.States.{state_taken}
use Rattle.abi_states.specs.declared.State.{State as Stated}

abbrev pub EvalsList : List ℤ → List ℤ → ℤ → ℤ → ℕ → List ℕ → List Float → List Float → Float → Code → Float → Type 0
EvalsList counts mobility sign total used list weights squares value r value' =
    Door (list_double_of (trace_of_numbers counts mobility sign total) used list (weights_of weights) squares) as_it_is value r value'

pub record ListsTrace (counts mobility : List ℤ) (sign total : ℤ) (entries : List ℤ) (used : ℕ) (list : List ℕ) (r : Code) (used' : ℕ)
    (list' : List ℕ) : Type 0 where
  pub code : r ≡ answer_number (listed_of (trace_of_numbers counts mobility sign total) entries)
  pub many : used' ≡ lent_after as_it_is used (listed_of (trace_of_numbers counts mobility sign total) entries)
  pub lent : list' ≡ bytes_after_rule (listed_of (trace_of_numbers counts mobility sign total) entries) entries list

abbrev pub FlattensList : List ℤ → List ℤ → ℤ → ℤ → ℕ → List ℕ → List ℤ → Code → List ℤ → Type 0
FlattensList counts mobility sign total used list entries r entries' =
    Door (flattened_of (trace_of_numbers counts mobility sign total) used list entries) as_it_is entries r entries'

abbrev pub AddsTraceList : List ℤ → List ℤ → ℤ → ℤ → ℕ → List ℕ → Float → List Float → Code → List Float → Type 0
AddsTraceList counts mobility sign total used list c gradient r gradient' =
    Door (list_added_of (trace_of_numbers counts mobility sign total) used list c gradient) as_it_is gradient r gradient'

pub record ComputesTraceList (bitboards board : List ℕ) (state : Stated) (counts mobility : List ℤ) (sign total : ℤ) (used : ℕ) (list : List ℕ)
    (r : Code) (counts' mobility' : List ℤ) (sign' total' : ℤ) (used' : ℕ) (list' : List ℕ) : Type 0 where
  pub code : r ≡ answer_number (list_traced_of bitboards board (state_taken state))
  pub counted : counts' ≡ lent_after counts_of_rule counts (list_traced_of bitboards board (state_taken state))
  pub moved : mobility' ≡ lent_after (λ (t : Trace). t.mobility) mobility (list_traced_of bitboards board (state_taken state))
  pub turn : sign' ≡ lent_after (λ (t : Trace). t.side) sign (list_traced_of bitboards board (state_taken state))
  pub whole : total' ≡ lent_after (λ (t : Trace). t.piece_count) total (list_traced_of bitboards board (state_taken state))
  pub many : used' ≡ lent_after (λ (t : Trace). pieces bitboards) used (list_traced_of bitboards board (state_taken state))
  pub lent : list' ≡ list_after (list_traced_of bitboards board (state_taken state)) bitboards list
