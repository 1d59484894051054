use mathlib.Core.List.{[]}
use Prim.Native.Nat.{◌-◌}
use lib.ListN.{length}
use Rattle.ledger_join.specs.Machine.{joint, bytes_on}
use Rattle.ledger_join.proofs.Turn.{Turn}
use Rattle.ledger_join.proofs.take_rows.Given as goal

abbrev pub invariant-loop-i : goal.invariant-loop-i
invariant-loop-i l =
    Turn (bytes_on (joint l.initial.row l.initial.state []) l.chunk) l.chunk l.initial.out l.row l.out l.text l.state l.wrote l.i l.k

abbrev pub decreases-loop-i : goal.decreases-loop-i
decreases-loop-i l = length l.chunk - l.i
