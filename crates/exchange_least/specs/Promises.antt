-- What each function promises, for all inputs. Definitions only.
use Rattle.std.specs.Prelude.{◌≡◌, List, ℕ, Option, Result}
use Rattle.position.specs.declared.State.{State}
use Rattle.attack_to.specs.Attackers.{attackers}
use Rattle.exchange_least.specs.Least.{least_of}
use Rattle.exchange_least.specs.Answers.{lvp_of, paper_attacker}
use Rattle.refusal.specs.Answer.{answered_by}
use Rattle.refusal.specs.declared.Refusal.{Refusal}

-- ---- the door
abbrev pub Lvp : List ℕ → List ℕ → List ℕ → State → ℕ → ℕ → ℕ → Result (Option (ℕ × ℕ)) Refusal → Type 0
Lvp kinds bitboards board state colour attacks occ r = answered_by paper_attacker r ≡ lvp_of kinds bitboards board state colour attacks occ

-- ---- the inner functions
abbrev pub Picks : List ℕ → List ℕ → ℕ → ℕ → ℕ → Option (ℕ × ℕ) → Type 0
Picks kinds bitboards colour attacks occ r = paper_attacker r ≡ least_of kinds bitboards colour attacks occ

-- "attacks on the target .. found afresh" from what is still there
abbrev pub Capturer : List ℕ → List ℕ → ℕ → ℕ → ℕ → Option (ℕ × ℕ) → Type 0
Capturer kinds bitboards colour to occ r = paper_attacker r ≡ least_of kinds bitboards colour (attackers bitboards to occ) occ
