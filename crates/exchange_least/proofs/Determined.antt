-- Each public function is determined by its promise: two results that it allows are equal. Assumes nothing.
use mathlib.Core.Path.{◌≡◌, refl}
use mathlib.Core.List.{List}
use Prim.Native.Nat.{ℕ}
use Rattle.refusal.specs.Answer.{answered_by}
use Rattle.refusal.proofs.Paper.{one, retract, answered_by_one}
use Rattle.position.specs.declared.State.{State}
use Rattle.exchange_least.specs.Least as P
use Rattle.exchange_least.specs.Answers.{paper_attacker}
use Rattle.exchange_least.specs.Promises.{Lvp, Picks, Capturer}
use Rattle.std.specs.Prelude.{Option, None, Some, Result}
use Rattle.refusal.specs.declared.Refusal.{Refusal}

-- ---- answers that read the same are one
abbrev untold : P.Attacker → Option (ℕ × ℕ)
untold P.nobody = None
untold (P.attacker s kind) = Some (s, kind)

told_back : (r : Option (ℕ × ℕ)) → untold (paper_attacker r) ≡ r
told_back (Some (s, kind)) = refl
told_back None = refl

pub told_one : (r s : Option (ℕ × ℕ)) → paper_attacker r ≡ paper_attacker s → r ≡ s
told_one = retract paper_attacker untold told_back

pub least_one : (r s : Result (Option (ℕ × ℕ)) Refusal) → answered_by paper_attacker r ≡ answered_by paper_attacker s → r ≡ s
least_one r s e = answered_by_one paper_attacker untold told_back e refl

-- ---- the door
pub lvp : (kinds bitboards board : List ℕ) (state : State) (colour attacks occ : ℕ) (r s : Result (Option (ℕ × ℕ)) Refusal)
    → Lvp kinds bitboards board state colour attacks occ r → Lvp kinds bitboards board state colour attacks occ s → r ≡ s
lvp kinds bitboards board state colour attacks occ r s p q = least_one r s (one p q)

-- ---- the inner functions
pub inner_pick : (kinds bitboards : List ℕ) (colour attacks occ : ℕ) (r s : Option (ℕ × ℕ))
    → Picks kinds bitboards colour attacks occ r → Picks kinds bitboards colour attacks occ s → r ≡ s
inner_pick kinds bitboards colour attacks occ r s p q = told_one r s (one p q)

pub inner_capturer : (kinds bitboards : List ℕ) (colour to occ : ℕ) (r s : Option (ℕ × ℕ))
    → Capturer kinds bitboards colour to occ r → Capturer kinds bitboards colour to occ s → r ≡ s
inner_capturer kinds bitboards colour to occ r s p q = told_one r s (one p q)
