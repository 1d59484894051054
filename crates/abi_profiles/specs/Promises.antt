-- What each door promises, for all inputs: the number that comes back and everything lent afterwards. Definitions only.
use Rattle.std.specs.Prelude.{◌≡◌, List, ℕ}
use Rattle.refusal.specs.Answer.{Answer, given}
use Rattle.position.specs.Checked.{checked}
use Rattle.position_profile.specs.Profile.{or_profile}
use Rattle.line_profile.specs.Promises.{read_under}
use Rattle.line_profile.specs.declared.Profile.TheVariants as P
use Rattle.abi_codes.specs.Codes.{answer_number}
use Rattle.abi_codes.specs.declared.Code.{Code}
use Rattle.abi_states.specs.States.{state_taken}
use Rattle.abi_states.specs.declared.State.{State as Stated}
use Rattle.abi.specs.Promises.{ReadsSaid}
use Rattle.abi.specs.declared.lines.Line.{Line}

-- what the profile says of a position: nothing, or a refusal
abbrev pub judged_of : List ℕ → List ℕ → Stated → Answer Unit
judged_of bitboards board state = checked bitboards board (state_taken state) (or_profile bitboards (state_taken state) (given tt))

abbrev pub JudgesDoor : List ℕ → List ℕ → Stated → Code → Type 0
JudgesDoor bitboards board state r = r ≡ answer_number (judged_of bitboards board state)

abbrev pub ReadsDoor : List ℕ → List ℕ → List ℕ → Line → List ℕ → List ℕ → Type 0
ReadsDoor line bitboards board r bitboards' board' = ReadsSaid (read_under P.RealPlay line bitboards board) bitboards board r bitboards' board'
