-- Phases (document 01: "2 phases", opening and ending). Definitions only.
use Rattle.std.specs.Prelude.{◌≡◌, List, ℕ, Result}
use Rattle.laws.specs.Tables.{tabulate}
use Rattle.refusal.specs.Answer.{Answer, below, answered_by}
use Rattle.chess.specs.Codes.{Same}
use Rattle.refusal.specs.declared.Refusal.TheVariants as R
use Rattle.places.specs.declared.phase.Phase.{Phase}
use Rattle.refusal.specs.declared.Refusal.{Refusal}

-- "a constant of the kind it belongs to": the named phases, entry k is phase k
abbrev pub AllPhases : List Phase → Type 0
AllPhases r = r ≡ tabulate 2 (λ k. record { 0 = k })

-- a number that is no phase is refused as SHAPE
abbrev pub made_of : ℕ → Answer ℕ
made_of n = below 2 R.Shape n

abbrev pub NewPhase : ℕ → Result Phase Refusal → Type 0
NewPhase n r = answered_by (λ x. x.0) r ≡ made_of n

abbrev pub PhaseIndex : Phase → ℕ → Type 0
PhaseIndex x n = Same x.0 n
