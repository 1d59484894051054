-- The ledger's state as four numbers, and what a call comes to as one. Definitions only.
use Rattle.std.specs.Prelude.{not, List, [], ◌∷◌, ℕ, eqb, get_or}
use Rattle.ledger_feed.specs.Promises.{Came, turned, many, full, came}
use Rattle.ledger_feed.specs.declared.SoFar.{SoFar}
use Rattle.abi_codes.specs.Codes.{code, flag_of}
use Rattle.abi_codes.specs.declared.Code.{Code}

abbrev pub state_from : List ℕ → SoFar
state_from l = record { held = get_or l 0 0; cr = not (eqb (get_or l 1 0) 0); loaded = get_or l 2 0; refused = get_or l 3 0 }

abbrev pub state_numbers : SoFar → List ℕ
state_numbers s = s.held ∷ flag_of s.cr ∷ s.loaded ∷ s.refused ∷ []

-- the refusal's number and square, 254 for too little room, 255 for too many lines, and 0 of an answer
abbrev pub came_number : {A : Type 0} → Came A → Code
came_number (came a) = code 0 []
came_number (turned n l) = code n l
came_number full = code 254 []
came_number many = code 255 []

-- what stands in lent memory afterwards: as it was, unless there is an answer
abbrev pub lent_after_came : {A B : Type 0} → (A → B) → B → Came A → B
lent_after_came part old (came a) = part a
lent_after_came part old (turned n l) = old
lent_after_came part old full = old
lent_after_came part old many = old
