use Prim.Native.Nat.{◌-◌}
use lib.ListN.{length}
use Rattle.line_cut.specs.Cut.{run_by}
use Rattle.line_cut.specs.Promises.{opened}
use Rattle.line_cut.proofs.Loop.{Turn}
use Rattle.score_collection.specs.Promises.{close_with}
use Rattle.score_collection.proofs.inner.take.Given as goal

abbrev pub invariant-loop-at : goal.invariant-loop-at
invariant-loop-at l =
    Turn (close_with l.expected) (run_by (close_with l.expected) (opened l.initial.begun l.initial.line) l.initial.sum l.chunk) (length l.initial.line) l.chunk l.line l.begun l.sum l.at

abbrev pub decreases-loop-at : goal.decreases-loop-at
decreases-loop-at l = length l.chunk - l.at
