-- The public function is determined by its promise: two results that it allows are equal. Assumes nothing.
use mathlib.Core.Path.{◌≡◌}
use mathlib.Core.Bool.{Bool}
use mathlib.Core.List.{List}
use Prim.Native.Nat.{ℕ}
use Rattle.refusal.proofs.Paper.{one}
use Rattle.position_consistent.specs.Promises.{Fits}

pub fits : (bitboards board : List ℕ) (r s : Bool) → Fits bitboards board r → Fits bitboards board s → r ≡ s
fits bitboards board r s p q = one p q
