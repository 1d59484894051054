-- The public function is determined by its promise: two results that it allows are equal. Assumes nothing.
use mathlib.Core.Path.{◌≡◌}
use mathlib.Core.Bool.{Bool}
use mathlib.Core.List.{List}
use Prim.Native.Nat.{ℕ}
use Rattle.refusal.proofs.Paper.{one}
use Rattle.trace_list.specs.Promises.{TestsList}

pub is_list_holds : (used : ℕ) (bytes : List ℕ) (r s : Bool) → TestsList used bytes r → TestsList used bytes s → r ≡ s
is_list_holds used bytes r s p q = one p q
