-- What the door promises, for all inputs: the number that comes back and everything lent afterwards. Definitions only.
use Rattle.std.specs.Prelude.{◌≡◌, List, ℕ, length}
use Rattle.refusal.specs.Answer.{Answer}
use Rattle.exchange_value.specs.Stop.{Stop, played_out, before}
use Rattle.exchange.specs.Exchange.{Capture}
use Rattle.exchange.specs.Listed.{column}
use Rattle.exchange_told.specs.Told.{told_of, the_stop}
use Rattle.abi_codes.specs.Codes.{answer_number, lent_after}
use Rattle.abi_modes.specs.Modes.{in_mode}
use Rattle.abi_codes.specs.declared.Code.{Code}
use Rattle.abi_states.specs.States.{state_taken}
use Rattle.abi_states.specs.declared.State.{State as Stated}

-- before which capture the exchange stops; their number, so that all are made, where it is played out
abbrev pub stop_number : Stop → ℕ → ℕ
stop_number played_out count = count
stop_number (before i) count = i

abbrev pub stop_in : List Capture → ℕ
stop_in cs = stop_number (the_stop cs) (length cs)

-- whatever is told
abbrev pub ToldAnswer : Type 0
ToldAnswer = Answer (List Capture)

pub record TellsSaid (a : ToldAnswer) (squares by taken : List ℕ) (count stop : ℕ) (r : Code) (squares' by' taken' : List ℕ) (count' stop' : ℕ) : Type 0 where
  pub code : r ≡ answer_number a
  pub made_from_holds : squares' ≡ lent_after (column 32 (λ c. c.from)) squares a
  pub made_by : by' ≡ lent_after (column 32 (λ c. c.kind)) by a
  pub takes : taken' ≡ lent_after (column 32 (λ c. c.taken)) taken a
  pub counted : count' ≡ lent_after length count a
  pub stops : stop' ≡ lent_after stop_in stop a

-- what is told of an exchange in the mode of a number
abbrev pub told_in_mode : ℕ → List ℕ → List ℕ → List ℕ → Stated → ℕ → ℕ → Answer (List Capture)
told_in_mode number kinds bitboards board state from to = in_mode number (λ mode. told_of mode kinds bitboards board (state_taken state) from to)

abbrev pub TellsCaptures : ℕ → List ℕ → List ℕ → List ℕ → Stated → ℕ → ℕ → List ℕ → List ℕ → List ℕ → ℕ → ℕ → Code → List ℕ → List ℕ → List ℕ → ℕ → ℕ → Type 0
TellsCaptures number kinds bitboards board state from to squares by taken count stop r squares' by' taken' count' stop' =
    TellsSaid (told_in_mode number kinds bitboards board state from to) squares by taken count stop r squares' by' taken' count' stop'
