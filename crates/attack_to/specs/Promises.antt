-- What each function promises, for all inputs. Definitions only.
use Rattle.std.specs.Prelude.{◌≡◌, Bool, List, ℕ, Result}
use Rattle.position.specs.declared.State.{State}
use Rattle.attack_to.specs.Attackers.{attackers, is_attacked, is_check}
use Rattle.attack_to.specs.Answers.{attacks_to_of, is_attacked_of, is_check_of}
use Rattle.refusal.specs.declared.Refusal.{Refusal}
use Rattle.refusal.specs.Answer.{answered}

-- ---- the doors
abbrev pub AttacksTo : List ℕ → List ℕ → State → ℕ → ℕ → Result ℕ Refusal → Type 0
AttacksTo bitboards board state square occupied r = answered r ≡ attacks_to_of bitboards board state square occupied

abbrev pub IsAttacked : List ℕ → List ℕ → State → ℕ → ℕ → Result Bool Refusal → Type 0
IsAttacked bitboards board state square colour r = answered r ≡ is_attacked_of bitboards board state square colour

abbrev pub IsCheck : List ℕ → List ℕ → State → ℕ → Result Bool Refusal → Type 0
IsCheck bitboards board state colour r = answered r ≡ is_check_of bitboards board state colour

-- ---- the inner functions
abbrev pub Attackers : List ℕ → ℕ → ℕ → ℕ → Type 0
Attackers bitboards square occ r = r ≡ attackers bitboards square occ

abbrev pub Attacked : List ℕ → ℕ → ℕ → Bool → Type 0
Attacked bitboards square colour r = r ≡ is_attacked bitboards square colour

abbrev pub InCheck : List ℕ → ℕ → Bool → Type 0
InCheck bitboards colour r = r ≡ is_check bitboards colour
