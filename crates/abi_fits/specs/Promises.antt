-- What each door of a trace and of the fitting step promises, for all inputs: the number that comes back and every lent number afterwards. Definitions only.
use Rattle.std.specs.Prelude.{◌≡◌, List, ℕ, Float, ℤ}
use Rattle.trace_counts.specs.declared.Trace.{Trace}
use Rattle.trace_double.specs.Promises.{double_of}
use Rattle.trace.specs.Promises.{traced_of, entries_after}
use Rattle.trace_shipped.specs.Promises.{written_answer, squares_after}
use Rattle.trace_shipped.specs.Weights.{shipped}
use Rattle.fit_gradient.specs.Promises.{added_of}
use Rattle.fit_adam.specs.Promises.{fit_from, fit_after, fit_step}
use Rattle.abi_codes.specs.Codes.{answer_number, lent_after, Door, as_it_is}
use Rattle.abi_records.specs.Records.{counts_of_rule, trace_of_numbers, named_of, weights_of}
use Rattle.abi_codes.specs.declared.Code.{Code}
use Rattle.abi_states.specs.States.{state_taken}
use Rattle.abi_states.specs.declared.State.{State as Stated}

-- ---- traces
pub record ComputesTrace (bitboards board : List ℕ) (state : Stated) (counts mobility : List ℤ) (sign pieces : ℤ) (entries : List ℤ)
    (r : Code) (counts' mobility' : List ℤ) (sign' pieces' : ℤ) (entries' : List ℤ) : Type 0 where
  pub code : r ≡ answer_number (traced_of bitboards board (state_taken state) entries)
  pub counted : counts' ≡ lent_after counts_of_rule counts (traced_of bitboards board (state_taken state) entries)
  pub moved : mobility' ≡ lent_after (λ (t : Trace). t.mobility) mobility (traced_of bitboards board (state_taken state) entries)
  pub turn : sign' ≡ lent_after (λ (t : Trace). t.side) sign (traced_of bitboards board (state_taken state) entries)
  pub total : pieces' ≡ lent_after (λ (t : Trace). t.piece_count) pieces (traced_of bitboards board (state_taken state) entries)
  pub marked : entries' ≡ entries_after (traced_of bitboards board (state_taken state) entries) bitboards entries

abbrev pub EvalsTrace : List ℤ → List ℤ → ℤ → ℤ → List ℤ → List Float → List Float → Float → Code → Float → Type 0
EvalsTrace counts mobility sign pieces entries weights squares value r value' =
    Door (double_of (trace_of_numbers counts mobility sign pieces) entries (weights_of weights) squares) as_it_is value r value'

-- ---- the fitting step
abbrev pub AddsGradient : List ℤ → List ℤ → ℤ → ℤ → List ℤ → Float → List Float → Code → List Float → Type 0
AddsGradient counts mobility sign pieces entries c gradient r gradient' =
    Door (added_of (trace_of_numbers counts mobility sign pieces) entries c gradient) as_it_is gradient r gradient'

pub record StepsAdam (gradient m v weights : List Float) (iteration : ℕ) (rate : Float) (r : Code) (m' v' weights' : List Float) : Type 0 where
  pub code : r ≡ answer_number (fit_step gradient (fit_from m v weights) iteration rate)
  pub lent : fit_from m' v' weights' ≡ fit_after (fit_step gradient (fit_from m v weights) iteration rate) (fit_from m v weights)

pub record Ships (weights squares : List Float) (r : Code) (weights' squares' : List Float) : Type 0 where
  pub code : r ≡ answer_number (written_answer squares)
  pub lent : weights' ≡ lent_after (λ (u : Unit). named_of shipped) weights (written_answer squares)
  pub written : squares' ≡ squares_after squares
