-- How an answer passes a door of C: a number comes back with a square beside it, and the answer's own numbers stand in lent memory. Definitions only.
use Rattle.std.specs.Prelude.{◌≡◌, Bool, cond, List, [], ◌∷◌, ℕ}
use Rattle.refusal.specs.Answer.{Answer, given, refused}
use Rattle.refusal.specs.Refusals.{number_of, beside_of}
use Rattle.refusal.specs.declared.Refusal.{Refusal}
use Rattle.abi_codes.specs.declared.Code.{Code}

-- the first of the values beside a refusal, or what stands there where none is
abbrev pub first_or : ℕ → List ℕ → ℕ
first_or none [] = none
first_or none (s ∷ l) = s

-- a number, and the square beside it: 255, which is none, where no square is named
abbrev pub code : ℕ → List ℕ → Code
code n l = record { number = n; square = first_or 255 l }

-- the refusal's number and square, and 0 of an answer: no refusal has it
abbrev pub answer_number : {A : Type 0} → Answer A → Code
answer_number (given a) = code 0 []
answer_number (refused n l) = code n l

abbrev pub refusal_code : Refusal → Code
refusal_code r = code (number_of r) (beside_of r)

-- what stands in lent memory afterwards: "Every refusal returns its number only .. and changes no lent byte"
abbrev pub lent_after : {A B : Type 0} → (A → B) → B → Answer A → B
lent_after part old (given a) = part a
lent_after part old (refused n l) = old

-- a door that lends one number: what comes back, and what it is afterwards
pub record Door {A B : Type 0} (a : Answer A) (part : A → B) (old : B) (r : Code) (new : B) : Type 0 where
  pub code : r ≡ answer_number a
  pub lent : new ≡ lent_after part old a

-- and one that lends two
pub record Doors {A B C : Type 0} (a : Answer A) (first : A → B) (second : A → C) (old : B) (old2 : C) (r : Code) (new : B) (new2 : C) : Type 0 where
  pub code : r ≡ answer_number a
  pub lent : new ≡ lent_after first old a
  pub lent2 : new2 ≡ lent_after second old2 a

-- whether something is so, as a number: 1, or 0 where it is not
abbrev pub flag_of : Bool → ℕ
flag_of b = cond b 1 0

-- a number that passes as it is
abbrev pub as_it_is : {A : Type 0} → A → A
as_it_is a = a
