-- `trace_shipped::weights` meets its contract. Assumes nothing.
use mathlib.Core.Path.{refl}
use Rattle.trace_shipped.specs.Weights.{shipped}
use Rattle.trace_shipped.proofs.weights.Goals as goal

pub returns : goal.returns
unfolding shipped
returns c = refl
