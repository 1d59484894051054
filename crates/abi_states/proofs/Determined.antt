-- Each public function is determined by its promise: two results that it allows are equal. Assumes nothing.
use mathlib.Core.Path.{◌≡◌}
use Rattle.refusal.proofs.Paper.{one}
use Rattle.position.specs.declared.State.{State}
use Rattle.abi_states.specs.Promises.{TakesState, TellsState}
use Rattle.abi_states.specs.declared.State.{State as Stated}

pub taken : (stated : Stated) (r s : State) → TakesState stated r → TakesState stated s → r ≡ s
taken stated r s = one

pub given : (state : State) (r s : Stated) → TellsState state r → TellsState state s → r ≡ s
given state r s = one
