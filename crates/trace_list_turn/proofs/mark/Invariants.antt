use mathlib.Core.Path.{◌≡◌}
use Prim.Native.Nat.{◌≤◌}
use Rattle.trace_list.specs.Form.{list_places, flat_of}
use Rattle.trace_list_turn.proofs.mark.Given as goal

abbrev pub invariant-loop-i : goal.invariant-loop-i
invariant-loop-i l = (l.used ≤ 64) × (l.entries ≡ flat_of (list_places l.bytes l.i))
