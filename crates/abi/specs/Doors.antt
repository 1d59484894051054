-- Verdicts, outcomes and an attacker or nobody as numbers for C. Definitions only.
use Rattle.std.specs.Prelude.{Bool, true, false, ℕ, ℤ, pos}
use Rattle.exchange_least.specs.Least.{Attacker, nobody, attacker}
use Rattle.score_verdict.specs.Verdict as P
use Rattle.score.specs.Score.{Outcome, verdict, score}

-- ---- a verdict's number, none 0
abbrev pub verdict_code : P.Verdict → ℕ
verdict_code P.none = 0
verdict_code P.lost = 1
verdict_code P.won = 2
verdict_code P.drawn = 3

-- a verdict or a score as two numbers, each 0 where the other is meant
abbrev pub outcome_verdict : Outcome → ℕ
outcome_verdict (verdict v) = verdict_code v
outcome_verdict (score z) = 0

abbrev pub outcome_score : Outcome → ℤ
outcome_score (verdict v) = pos 0
outcome_score (score z) = z

-- ---- an attacker or nobody: whether there is one, its square and its kind, 0 beside nobody
abbrev pub anyone : Attacker → Bool
anyone nobody = false
anyone (attacker s kind) = true

abbrev pub square_or : Attacker → ℕ
square_or nobody = 0
square_or (attacker s kind) = s

abbrev pub kind_or : Attacker → ℕ
kind_or nobody = 0
kind_or (attacker s kind) = kind
