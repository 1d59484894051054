-- What each function promises, for all inputs. Definitions only.
use Rattle.std.specs.Prelude.{◌≡◌, List, ℕ, Result}
use Rattle.score.specs.Answers.{scored}
use Rattle.score.specs.declared.Scored.{Scored}
use Rattle.score_errors.specs.Errors.{added_with, totals_with}
use Rattle.score_errors.specs.declared.Totals.{Totals}
use Rattle.refusal.specs.declared.Refusal.{Refusal}
use Rattle.refusal.specs.Answer.{answered}

-- before any line
abbrev pub none : Totals
none = record { scored = 0; apart = 0; sum = 0 }

abbrev pub StartsTotals : Totals → Type 0
StartsTotals r = r ≡ none

abbrev pub AddsLine : Totals → ℕ → Result Scored Refusal → ℕ → Result Totals Refusal → Type 0
AddsLine totals side answer half r = answered r ≡ totals_with totals side (scored answer) half

-- the inner function, by whatever table is lent
abbrev pub AddsWith : List ℕ → Totals → ℕ → Result Scored Refusal → ℕ → Result Totals Refusal → Type 0
AddsWith t totals side answer half r = answered r ≡ added_with t totals side (scored answer) half
