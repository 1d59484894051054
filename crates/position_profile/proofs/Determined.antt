-- Each public function is determined by its promise: two results that it allows are equal. Assumes nothing.
use mathlib.Core.Path.{◌≡◌}
use mathlib.Core.List.{List}
use Prim.Native.Nat.{ℕ}
use Rattle.refusal.proofs.Paper.{one, answered_same}
use Rattle.position.specs.declared.State.{State}
use Rattle.position_profile.specs.Promises.{Judges, JudgesPosition}
use Rattle.std.specs.Prelude.{Result}
use Rattle.refusal.specs.declared.Refusal.{Refusal}

pub judge : (bitboards board : List ℕ) (state : State) (r s : Result Unit Refusal) → JudgesPosition bitboards board state r → JudgesPosition bitboards board state s → r ≡ s
judge bitboards board state r s p q = answered_same r s (one p q)

pub inner_judge : (bitboards : List ℕ) (state : State) (r s : Result Unit Refusal) → Judges bitboards state r → Judges bitboards state s → r ≡ s
inner_judge bitboards state r s p q = answered_same r s (one p q)
