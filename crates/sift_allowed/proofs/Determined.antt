-- The public function that decides is determined by its promise: two answers that it allows are equal. Assumes nothing.
use mathlib.Core.Path.{◌≡◌}
use mathlib.Core.Bool.{Bool}
use Prim.Native.Nat.{ℕ}
use Rattle.refusal.proofs.Paper.{one}
use Rattle.sift_allowed.specs.Settled.{OutputStands}

pub settled : (refused : ℕ) (allowed r s : Bool) → OutputStands refused allowed r → OutputStands refused allowed s → r ≡ s
settled refused allowed r s p q = one p q
