-- `trace_shipped::fill` meets its contract. The loop's invariant: the weights passed are written. Assumes nothing.
use native.Mathlib.Omega.{arith}
use Rattle.trace_shipped.proofs.Weighed.{shipped_all}
use Rattle.trace_shipped.proofs.fill.Goals as goal

pub returns : goal.returns
returns c = let l = c.loop-place in shipped_all l.squares l.place (omega arith) (omega arith) l.invariant
