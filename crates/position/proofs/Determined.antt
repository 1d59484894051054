-- Each public function is determined by its promise: two results that it allows are equal. Assumes nothing.
use mathlib.Core.Path.{◌≡◌}
use mathlib.Core.List.{List}
use Prim.Native.Nat.{ℕ}
use Rattle.refusal.proofs.Paper.{one, answered_same}
use Rattle.position.specs.Promises.{OfSide, Checks}
use Rattle.position.specs.declared.State.{State}
use Rattle.std.specs.Prelude.{Result}
use Rattle.refusal.specs.declared.Refusal.{Refusal}

-- ---- the functions
pub of_side_holds : (side : ℕ) (r s : State) → OfSide side r → OfSide side s → r ≡ s
of_side_holds side r s = one

pub check : (bitboards board : List ℕ) (state : State) (r s : Result Unit Refusal) → Checks bitboards board state r → Checks bitboards board state s → r ≡ s
check bitboards board state r s p q = answered_same r s (one p q)
