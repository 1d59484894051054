-- What each function promises, for all inputs. Definitions only.
use Rattle.std.specs.Prelude.{◌≡◌, ◌&&◌, List, ℕ, eqb, length, Result}
use Rattle.refusal.specs.Answer.{Answer, given, refused, or_refuse, answered}
use Rattle.refusal.specs.declared.Refusal.TheVariants as R
use Rattle.position.specs.declared.State.{State}
use Rattle.position_profile.specs.Profile.{or_profile}
use Rattle.line_parse.specs.Line.{Line}
use Rattle.line.specs.Promises.{Reads}
use Rattle.line_profile.specs.Under.{line_under}
use Rattle.line_profile.specs.declared.Profile.{Profile}
use Rattle.line_profile.specs.declared.Profile.TheVariants as P
use Rattle.refusal.specs.declared.Refusal.{Refusal}

-- ---- the door: SHAPE, "not 14 bitboards, 64 bytes", then what the line says under the profile; a refusal writes nothing
abbrev pub read_under : Profile → List ℕ → List ℕ → List ℕ → Answer Line
read_under profile line bitboards board = or_refuse (eqb (length bitboards) 14 && eqb (length board) 64) R.Shape (line_under profile line)

abbrev pub ReadsLineUnder : Profile → List ℕ → List ℕ → List ℕ → Result (State × ℕ) Refusal → List ℕ → List ℕ → Type 0
ReadsLineUnder profile line bitboards board r bitboards' board' = Reads (read_under profile line bitboards board) bitboards board r bitboards' board'

-- ---- what was read by value: the state and the half points, the position's bitboards beside them
abbrev pub played_read : List ℕ → Answer (State × ℕ) → Answer (State × ℕ)
played_read bitboards (given said) = or_profile bitboards said.0 (given said)
played_read bitboards (refused n v) = refused n v

abbrev pub judged_read : Profile → List ℕ → Answer (State × ℕ) → Answer (State × ℕ)
judged_read P.Any bitboards said = said
judged_read P.RealPlay bitboards said = played_read bitboards said

abbrev pub JudgesRead : Profile → List ℕ → Result (State × ℕ) Refusal → Result (State × ℕ) Refusal → Type 0
JudgesRead profile bitboards answer r = answered r ≡ judged_read profile bitboards (answered answer)

-- ---- a private function
abbrev pub JudgesPlayed : List ℕ → Result (State × ℕ) Refusal → Result (State × ℕ) Refusal → Type 0
JudgesPlayed bitboards answer r = answered r ≡ played_read bitboards (answered answer)
