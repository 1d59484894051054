-- What a call gives, by documents 01 and 02, with nothing of the code in it. Definitions only.
use Rattle.std.specs.Prelude.{Bool, cond, List, ℕ, ltb, Result, Ok, Err}
use Rattle.refusal.specs.Refusals.{number_of, beside_of}
use Rattle.refusal.specs.declared.Refusal.{Refusal}

-- a refusal's number with the values beside it, or an answer
pub data Answer (A : Type 0) : Type 0 where
  refused : ℕ → List ℕ → Answer A
  given : A → Answer A

-- "Every refusal returns its number only", and "naming a square .. returns it beside its number"
abbrev pub refusal_of : {A : Type 0} → Refusal → Answer A
refusal_of r = refused (number_of r) (beside_of r)

-- "First in order wins": the refusal where the test fails, else whatever comes after it
abbrev pub or_refuse : {A : Type 0} → Bool → Refusal → Answer A → Answer A
or_refuse holds r rest = cond holds rest (refusal_of r)

-- a number below a bound, or the refusal
abbrev pub below : ℕ → Refusal → ℕ → Answer ℕ
below bound r n = or_refuse (ltb n bound) r (given n)

-- ---- the code's answers on the paper
-- what is given, read as the paper has it, or the refusal
abbrev pub answered_by : {A B : Type 0} → (A → B) → Result A Refusal → Answer B
answered_by reading (Ok a) = given (reading a)
answered_by reading (Err r) = refusal_of r

-- the same where what is given is on the paper as it is
abbrev pub answered : {A : Type 0} → Result A Refusal → Answer A
answered (Ok a) = given a
answered (Err r) = refusal_of r
