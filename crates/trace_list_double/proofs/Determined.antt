-- The public function is determined by its promise: two results that it allows are equal, two NaNs being one. Assumes nothing.
use mathlib.Core.Path.{◌≡◌}
use mathlib.Core.List.{List}
use Prim.Native.Nat.{ℕ}
use lib.Ieee.{Float}
use Rattle.refusal.proofs.Paper.{one, answered_same}
use Rattle.trace_counts.specs.declared.Weights.{Weights}
use Rattle.trace_counts.specs.declared.Trace.{Trace}
use Rattle.trace_list_double.specs.Promises.{DoublesList}
use Rattle.std.specs.Prelude.{Result}
use Rattle.refusal.specs.declared.Refusal.{Refusal}

pub eval_list : (t : Trace) (used : ℕ) (bytes : List ℕ) (w : Weights) (squares : List Float) (r s : Result Float Refusal) → DoublesList t used bytes w squares r
    → DoublesList t used bytes w squares s → r ≡ s
eval_list t used bytes w squares r s p q = answered_same r s (one p q)
