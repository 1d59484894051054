-- What each function promises, for all inputs. Definitions only.
use Rattle.std.specs.Prelude.{◌≡◌, List, ℕ, Result}
use Rattle.refusal.specs.Answer.{given, answered}
use Rattle.position.specs.Checked.{of_side, checked}
use Rattle.position.specs.declared.State.{State}
use Rattle.refusal.specs.declared.Refusal.{Refusal}

abbrev pub OfSide : ℕ → State → Type 0
OfSide side r = r ≡ of_side side

abbrev pub Checks : List ℕ → List ℕ → State → Result Unit Refusal → Type 0
Checks bitboards board state r = answered r ≡ checked bitboards board state (given tt)
