use mathlib.Core.Path.{◌≡◌}
use Prim.Native.Nat.{◌≤◌}
use Rattle.bits.specs.Bitboard.{how_many}
use Rattle.trace_list.specs.Form.{is_one_rule}
use Rattle.trace_list_turn.proofs.number.Given as goal

abbrev pub invariant-loop-entry : goal.invariant-loop-entry
invariant-loop-entry l = (l.sum ≤ l.entry-index) × (l.sum ≡ how_many l.entry-index (is_one_rule l.entries))
