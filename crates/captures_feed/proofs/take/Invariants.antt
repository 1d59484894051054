use mathlib.Core.List.{[]}
use Prim.Native.Nat.{◌-◌}
use lib.ListN.{length}
use Rattle.line_cut.specs.Cut.{run_by}
use Rattle.line_cut.specs.Promises.{opened}
use Rattle.captures_feed.specs.Machine.{close_told}
use Rattle.captures_feed.proofs.Turn.{Turn}
use Rattle.captures_feed.proofs.take.Given as goal

abbrev pub invariant-loop-at : goal.invariant-loop-at
invariant-loop-at l =
    Turn l.mode (run_by (close_told l.mode) (opened l.initial.begun l.initial.line) (record { loaded = l.initial.written.loaded; refused = l.initial.written.refused; text = [] }) l.chunk) l.chunk
    l.initial.out l.line l.out l.begun l.written l.at

abbrev pub decreases-loop-at : goal.decreases-loop-at
decreases-loop-at l = length l.chunk - l.at
