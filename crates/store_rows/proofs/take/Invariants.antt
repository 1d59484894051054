use Prim.Native.Nat.{◌-◌}
use lib.ListN.{length}
use Rattle.store_rows.specs.Promises.{run_store}
use Rattle.store_rows.proofs.Turn.{store_in, Turn}
use Rattle.store_rows.proofs.take.Given as goal

abbrev pub invariant-loop-at : goal.invariant-loop-at
invariant-loop-at l =
    Turn (run_store (store_in l.initial.held l.initial.loaded l.initial.refused) l.initial.piece l.chunk) l.chunk l.initial.out l.piece l.out l.held l.loaded l.refused l.wrote l.at

abbrev pub decreases-loop-at : goal.decreases-loop-at
decreases-loop-at l = length l.chunk - l.at
