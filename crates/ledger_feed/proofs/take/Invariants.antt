use mathlib.Core.List.{[]}
use Prim.Native.Nat.{◌-◌}
use lib.ListN.{length}
use Rattle.line_cut.specs.Cut.{run_by}
use Rattle.line_cut.specs.Promises.{opened}
use Rattle.ledger_feed.specs.Machine.{close_row}
use Rattle.ledger_feed.proofs.Turn.{Turn, rows}
use Rattle.ledger_feed.proofs.take.Given as goal

abbrev pub invariant-loop-at : goal.invariant-loop-at
invariant-loop-at l =
    Turn l.profile (run_by (close_row l.profile) (opened l.initial.begun l.initial.line) (rows l.initial.loaded l.initial.refused []) l.chunk) l.chunk l.initial.out l.line l.out l.begun l.loaded l.refused l.wrote l.at

abbrev pub decreases-loop-at : goal.decreases-loop-at
decreases-loop-at l = length l.chunk - l.at
