-- The public function is determined by its promise: two results that it allows are equal, two NaNs being one. Assumes nothing.
use mathlib.Core.Path.{◌≡◌}
use lib.Ieee.{Float}
use Rattle.refusal.proofs.Paper.{one}
use Rattle.trace_named.specs.Named.{Sums}
use Rattle.trace_counts.specs.declared.Weights.{Weights}
use Rattle.trace_counts.specs.declared.Trace.{Trace}

pub sum : (t : Trace) (w : Weights) (r s : Float) → Sums t w r → Sums t w s → r ≡ s
sum t w r s p q = one p q
