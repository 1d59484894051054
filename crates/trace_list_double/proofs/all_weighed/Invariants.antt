use mathlib.Core.Path.{◌≡◌}
use Prim.Native.Nat.{◌≤◌}
use Rattle.trace_list.specs.Ones.{over}
use Rattle.trace_list.specs.Form.{list_places}
use Rattle.trace_list_double.specs.Promises.{weighed}
use Rattle.trace_list_double.proofs.all_weighed.Given as goal

abbrev pub invariant-loop-i : goal.invariant-loop-i
invariant-loop-i l = (l.used ≤ 64) × (l.score ≡ over (weighed l.squares l.x) l.start (list_places l.bytes l.i))
