use mathlib.Core.Path.{◌≡◌}
use Prim.Native.Nat.{◌+◌, ◌*◌}
use mir.Syntax.{w32}
use mir.Val.{of_z}
use Rattle.trace_marks.specs.Marks.{bits_at, Held, together}
use Rattle.trace_marks.proofs.united.Given as goal

abbrev pub invariant-loop-entry : goal.invariant-loop-entry
invariant-loop-entry l =
    (of_z w32 l.union ≡ together (λ i. bits_at l.entries (16 * l.group + i)) l.entry-index) × Held l.entries (16 * l.group) l.entry-index
