-- Each public function is determined by its promise: two results that it allows are equal. Assumes nothing.
use mathlib.Core.Path.{◌≡◌}
use mathlib.Core.List.{List}
use Prim.Native.Nat.{ℕ}
use Rattle.refusal.proofs.Paper.{one, answered_same}
use Rattle.attack.specs.Promises.{PieceAttacks, Other, Standing, Occupied, AttacksWith, AttacksFrom}
use Rattle.std.specs.Prelude.{Result}
use Rattle.refusal.specs.declared.Refusal.{Refusal}

-- ---- the door
pub piece_attacks : (piece square occ : ℕ) (r s : Result ℕ Refusal) → PieceAttacks piece square occ r → PieceAttacks piece square occ s → r ≡ s
piece_attacks piece square occ r s p q = answered_same r s (one p q)

-- ---- the inner functions
pub inner_other : (colour r s : ℕ) → Other colour r → Other colour s → r ≡ s
inner_other colour r s = one

pub inner_standing : (bbs : List ℕ) (kind colour r s : ℕ) → Standing bbs kind colour r → Standing bbs kind colour s → r ≡ s
inner_standing bbs kind colour r s = one

pub inner_occupied : (bbs : List ℕ) (r s : ℕ) → Occupied bbs r → Occupied bbs s → r ≡ s
inner_occupied bbs r s = one

pub inner_attacks : (tables : List (List ℕ)) (kind colour square occ r s : ℕ) → AttacksWith tables kind colour square occ r
    → AttacksWith tables kind colour square occ s → r ≡ s
inner_attacks tables kind colour square occ r s = one

pub inner_attacks_from : (kind colour square occ r s : ℕ) → AttacksFrom kind colour square occ r → AttacksFrom kind colour square occ s → r ≡ s
inner_attacks_from kind colour square occ r s = one
