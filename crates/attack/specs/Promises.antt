-- What each function promises, for all inputs. Definitions only.
use Rattle.std.specs.Prelude.{◌≡◌, List, ℕ, Result}
use Rattle.attack.specs.Attacks.{standing, occupied, other, attacks}
use Rattle.attack.specs.PrivateLent.{attacks_with}
use Rattle.attack.specs.Answers.{piece_attacks_of}
use Rattle.refusal.specs.declared.Refusal.{Refusal}
use Rattle.refusal.specs.Answer.{answered}

-- ---- the door
abbrev pub PieceAttacks : ℕ → ℕ → ℕ → Result ℕ Refusal → Type 0
PieceAttacks piece square occupied r = answered r ≡ piece_attacks_of piece square occupied

-- ---- the inner functions
abbrev pub Other : ℕ → ℕ → Type 0
Other colour r = r ≡ other colour

abbrev pub Standing : List ℕ → ℕ → ℕ → ℕ → Type 0
Standing bitboards kind colour r = r ≡ standing bitboards kind colour

abbrev pub Occupied : List ℕ → ℕ → Type 0
Occupied bitboards r = r ≡ occupied bitboards

abbrev pub AttacksWith : List (List ℕ) → ℕ → ℕ → ℕ → ℕ → ℕ → Type 0
AttacksWith tables kind colour square occ r = r ≡ attacks_with tables kind colour square occ

abbrev pub AttacksFrom : ℕ → ℕ → ℕ → ℕ → ℕ → Type 0
AttacksFrom kind colour square occ r = r ≡ attacks kind colour square occ
