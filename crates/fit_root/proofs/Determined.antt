-- The public function is determined by its promise: two results that it allows are equal, two NaNs being one. Assumes nothing.
use Rattle.std.proofs.Common.{◌≡◌}
use lib.Ieee.{Float}
use Rattle.refusal.proofs.Paper.{one}
use Rattle.fit_root.specs.Root.{Roots}

pub sqrt : (x r s : Float) → Roots x r → Roots x s → r ≡ s
sqrt x r s p q = one p q
