-- A mode of the exchange as a number: what comes before every answer that is asked for in one. Definitions only.
use Rattle.std.specs.Prelude.{◌≡◌, cond, ℕ, eqb, Result}
use Rattle.refusal.specs.Answer.{Answer, given, refusal_of, answered}
use Rattle.refusal.specs.declared.Refusal.TheVariants as R
use Rattle.exchange_start.specs.declared.Mode.{Mode}
use Rattle.exchange_start.specs.declared.Mode.TheVariants.{First, Second}
use Rattle.refusal.specs.declared.Refusal.{Refusal}

-- 0 is the first, 1 the second; SHAPE for any other number
abbrev pub in_mode : {A : Type 0} → ℕ → (Mode → Answer A) → Answer A
in_mode n rest = cond (eqb n 0) (rest First) (cond (eqb n 1) (rest Second) (refusal_of R.Shape))

abbrev pub NamesMode : ℕ → Result Mode Refusal → Type 0
NamesMode number r = answered r ≡ in_mode number given
