use mathlib.Core.Path.{◌≡◌}
use Prim.Native.Nat.{◌*◌, ◌^◌, ◌<◌}
use mir.Syntax.{w32}
use mir.Val.{of_z}
use Rattle.trace_marks.specs.Marks.{Held, together, group_of, groups_of}
use Rattle.trace_marks.proofs.tested_groups.Given as goal

abbrev pub invariant-loop-g : goal.invariant-loop-g
invariant-loop-g l = (of_z w32 l.union ≡ together (group_of l.entries) l.g) × (l.groups ≡ groups_of l.entries l.g) × Held l.entries 0 (16 * l.g)
    × (of_z w32 l.union < 2 ^ 32)
