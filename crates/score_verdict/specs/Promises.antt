-- What each function promises, for all inputs. Definitions only.
use Rattle.std.specs.Prelude.{◌≡◌, List, ℕ, Result, Option}
use Rattle.position.specs.declared.State.{State}
use Rattle.score_verdict.specs.Verdict.{verdict_of, ending_of}
use Rattle.score_verdict.specs.Answers.{verdict_paper}
use Rattle.score_verdict.specs.declared.Verdict.{Verdict}
use Rattle.refusal.specs.declared.Refusal.{Refusal}
use Rattle.refusal.specs.Answer.{answered_by}

abbrev pub EvalsEnding : List ℕ → List ℕ → State → Result (Option Verdict) Refusal → Type 0
EvalsEnding bitboards board state r = answered_by verdict_paper r ≡ ending_of bitboards board state

-- the inner function, on any bitboards
abbrev pub Ends : List ℕ → ℕ → Option Verdict → Type 0
Ends bitboards side r = verdict_paper r ≡ verdict_of bitboards side
