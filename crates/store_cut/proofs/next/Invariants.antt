use Prim.Native.Nat.{◌≤◌, max}
use lib.ListN.{length, drop}
use Rattle.store_cut.specs.Cut.{find_piece}
use Rattle.store_cut.specs.Promises.{holding_piece}
use Rattle.store_cut.proofs.Turn.{Turn}
use Rattle.store_cut.proofs.next.Given as goal

abbrev pub invariant-loop-i : goal.invariant-loop-i
invariant-loop-i l = (l.i ≤ max l.from (length l.chunk)) × Turn (find_piece (holding_piece l.initial.piece l.initial.held) (drop l.from l.chunk)) l.from (length l.initial.piece) l.chunk l.piece l.held l.i
