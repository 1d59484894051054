-- Each public function is determined by its promise: two results that it allows are equal. Assumes nothing.
use mathlib.Core.Path.{◌≡◌}
use mathlib.Core.List.{List}
use Prim.Native.Nat.{ℕ}
use Rattle.refusal.proofs.Paper.{one, answered_one}
use Rattle.position.specs.declared.State.{State}
use Rattle.score_material.specs.Promises.{EvalsMaterial, CountsKind, SideWorth, Pairs}
use Rattle.std.specs.Prelude.{Result}
use Rattle.refusal.specs.declared.Refusal.{Refusal}
use lib.IntN.{ℤ}

-- answers that read the same are one
pub eval_material : (bitboards board : List ℕ) (state : State) (colour : ℕ) (r s : Result ℤ Refusal)
    → EvalsMaterial bitboards board state colour r → EvalsMaterial bitboards board state colour s → r ≡ s
eval_material bitboards board state colour r s p q = answered_one p q

-- ---- the inner functions
pub inner_number : (bitboards : List ℕ) (kind colour r s : ℕ) → CountsKind bitboards kind colour r → CountsKind bitboards kind colour s → r ≡ s
inner_number bitboards kind colour r s = one

pub inner_material : (bitboards : List ℕ) (colour r s : ℕ) → SideWorth bitboards colour r → SideWorth bitboards colour s → r ≡ s
inner_material bitboards colour r s = one

pub inner_pair : (bitboards : List ℕ) (colour r s : ℕ) → Pairs bitboards colour r → Pairs bitboards colour s → r ≡ s
inner_pair bitboards colour r s = one
