use Prim.Native.Nat.{◌≤◌, max}
use lib.ListN.{length, drop}
use Rattle.line_cut.specs.Cut.{find_of}
use Rattle.line_cut.proofs.Turn.{Turn, holding}
use Rattle.line_cut.proofs.next.Given as goal

abbrev pub invariant-loop-i : goal.invariant-loop-i
invariant-loop-i l = (l.i ≤ max l.from (length l.chunk)) × Turn (find_of (holding l.initial.line l.initial.held l.initial.cr) (drop l.from l.chunk)) l.from (length l.initial.line) l.chunk l.line l.held l.cr l.i
