use mathlib.Core.Path.{◌≡◌}
use Prim.Native.Nat.{◌≤◌}
use Rattle.trace_list.specs.Ones.{over}
use Rattle.trace_list.specs.Form.{list_places}
use Rattle.fit_gradient.specs.Lists.{mark_one}
use Rattle.fit_gradient.proofs.Pairs.{pairs}
use Rattle.fit_gradient.proofs.list_added.Given as goal

abbrev pub invariant-loop-i : goal.invariant-loop-i
invariant-loop-i l = (l.used ≤ 64) × (l.gradient ≡ over (mark_one (pairs l.opening l.ending)) l.initial.gradient (list_places l.bytes l.i))
