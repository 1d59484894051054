-- Each public function is determined by its promise: two results and memories that it allows are equal. Assumes nothing.
use mathlib.Core.Path.{◌≡◌}
use mathlib.Core.List.{List}
use lib.Ieee.{Float}
use Rattle.refusal.proofs.Paper.{one, answered_one}
use Rattle.trace_counts.specs.declared.Weights.{Weights}
use Rattle.trace_shipped.specs.Promises.{Ships, ShipsSquares}
use Rattle.std.specs.Prelude.{Result}
use Rattle.refusal.specs.declared.Refusal.{Refusal}

pub weights : (r s : Weights) → Ships r → Ships s → r ≡ s
weights r s = one

pub square_weights : (before : List Float) (r s : Result Unit Refusal) (after last : List Float) → ShipsSquares before r after → ShipsSquares before s last
    → (r ≡ s) × (after ≡ last)
square_weights before r s after last p q = (answered_one p.0 q.0, one p.1 q.1)
