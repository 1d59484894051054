-- Each public function is determined by its promise: two results that it allows are equal, two NaNs being one. Assumes nothing.
use mathlib.Core.Path.{◌≡◌}
use mathlib.Core.List.{List}
use lib.IntN.{ℤ}
use lib.Ieee.{Float}
use Rattle.refusal.proofs.Paper.{one, answered_same}
use Rattle.trace_double.specs.Promises.{Doubles}
use Rattle.trace_counts.specs.declared.Weights.{Weights}
use Rattle.trace_counts.specs.declared.Trace.{Trace}
use Rattle.std.specs.Prelude.{Result}
use Rattle.refusal.specs.declared.Refusal.{Refusal}

-- ---- the function
pub eval : (t : Trace) (entries : List ℤ) (w : Weights) (squares : List Float) (r s : Result Float Refusal) → Doubles t entries w squares r
    → Doubles t entries w squares s → r ≡ s
eval t entries w squares r s p q = answered_same r s (one p q)
