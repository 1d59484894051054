-- What each function promises, for all inputs. Definitions only.
use Rattle.std.specs.Prelude.{◌≡◌, List, ℕ, Result}
use Rattle.position.specs.declared.State.{State}
use Rattle.score.specs.Score.{score_of, eval_of}
use Rattle.score.specs.Answers.{scored}
use Rattle.score.specs.declared.Scored.{Scored}
use Rattle.refusal.specs.declared.Refusal.{Refusal}

abbrev pub Evals : List ℕ → List ℕ → State → Result Scored Refusal → Type 0
Evals bitboards board state r = scored r ≡ eval_of bitboards board state

-- the inner function, on any bitboards
abbrev pub EvalsInner : List ℕ → State → Result Scored Refusal → Type 0
EvalsInner bitboards state r = scored r ≡ score_of bitboards state
