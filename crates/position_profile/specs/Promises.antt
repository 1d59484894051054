-- What each function promises, for all inputs. Definitions only.
use Rattle.std.specs.Prelude.{◌≡◌, List, ℕ, Result}
use Rattle.refusal.specs.Answer.{given, answered}
use Rattle.position.specs.Checked.{checked}
use Rattle.position.specs.declared.State.{State}
use Rattle.position_profile.specs.Profile.{or_profile}
use Rattle.refusal.specs.declared.Refusal.{Refusal}

-- on any bitboards
abbrev pub Judges : List ℕ → State → Result Unit Refusal → Type 0
Judges bitboards state r = answered r ≡ or_profile bitboards state (given tt)

-- the door: SHAPE and what is at odds come first, as in every call on a position
abbrev pub JudgesPosition : List ℕ → List ℕ → State → Result Unit Refusal → Type 0
JudgesPosition bitboards board state r = answered r ≡ checked bitboards board state (or_profile bitboards state (given tt))
