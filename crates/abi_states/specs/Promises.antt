-- What each function promises, for all inputs. Definitions only.
use Rattle.std.specs.Prelude.{◌≡◌}
use Rattle.position.specs.declared.State.{State}
use Rattle.abi_states.specs.States.{state_taken, state_told}
use Rattle.abi_states.specs.declared.State.{State as Stated}

abbrev pub TakesState : Stated → State → Type 0
TakesState stated r = r ≡ state_taken stated

abbrev pub TellsState : State → Stated → Type 0
TellsState state r = r ≡ state_told state
