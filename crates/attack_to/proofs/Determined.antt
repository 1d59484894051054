-- Each public function is determined by its promise: two results that it allows are equal. Assumes nothing.
use mathlib.Core.Path.{◌≡◌}
use mathlib.Core.Bool.{Bool}
use mathlib.Core.List.{List}
use Prim.Native.Nat.{ℕ}
use Rattle.refusal.proofs.Paper.{one, answered_same}
use Rattle.position.specs.declared.State.{State}
use Rattle.attack_to.specs.Promises.{AttacksTo, IsAttacked, IsCheck, Attackers, Attacked, InCheck}
use Rattle.std.specs.Prelude.{Result}
use Rattle.refusal.specs.declared.Refusal.{Refusal}

-- ---- the doors
pub attacks_to : (bbs bytes : List ℕ) (state : State) (square occ : ℕ) (r s : Result ℕ Refusal) → AttacksTo bbs bytes state square occ r
    → AttacksTo bbs bytes state square occ s → r ≡ s
attacks_to bbs bytes state square occ r s p q = answered_same r s (one p q)

pub is_attacked_holds : (bbs bytes : List ℕ) (state : State) (square colour : ℕ) (r s : Result Bool Refusal) → IsAttacked bbs bytes state square colour r
    → IsAttacked bbs bytes state square colour s → r ≡ s
is_attacked_holds bbs bytes state square colour r s p q = answered_same r s (one p q)

pub is_check_holds : (bbs bytes : List ℕ) (state : State) (colour : ℕ) (r s : Result Bool Refusal) → IsCheck bbs bytes state colour r → IsCheck bbs bytes state colour s → r ≡ s
is_check_holds bbs bytes state colour r s p q = answered_same r s (one p q)

-- ---- the inner functions
pub inner_attacks_to : (bbs : List ℕ) (square occ r s : ℕ) → Attackers bbs square occ r → Attackers bbs square occ s → r ≡ s
inner_attacks_to bbs square occ r s = one

pub inner_is_attacked : (bbs : List ℕ) (square colour : ℕ) (r s : Bool) → Attacked bbs square colour r → Attacked bbs square colour s → r ≡ s
inner_is_attacked bbs square colour r s = one

pub inner_is_check : (bbs : List ℕ) (colour : ℕ) (r s : Bool) → InCheck bbs colour r → InCheck bbs colour s → r ≡ s
inner_is_check bbs colour r s = one
