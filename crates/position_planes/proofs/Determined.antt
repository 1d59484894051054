-- The public function is determined by its promise: two results that it allows are equal. Assumes nothing.
use mathlib.Core.Path.{◌≡◌}
use mathlib.Core.List.{List}
use Prim.Native.Nat.{ℕ}
use Rattle.refusal.proofs.Paper.{one}
use Rattle.position_planes.specs.Sorted.{Sorts}

pub sorted : (board r s : List ℕ) → Sorts board r → Sorts board s → r ≡ s
sorted board r s p q = one p q
