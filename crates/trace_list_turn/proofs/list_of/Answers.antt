-- `trace_list_turn::list_of` meets its contract. Assumes nothing.
use mathlib.Core.Path.{subst}
use Prim.Native.Nat.{ℕ, ◌<◌}
use Rattle.trace_marks.proofs.Tested.{tested_both}
use Rattle.trace_list_turn.proofs.Doors.{too_many, made, counted}
use Rattle.trace_list_turn.proofs.list_of.Goals as goal

pub returns-then-ones-gt-ENTRIES : goal.returns-then-ones-gt-ENTRIES
returns-then-ones-gt-ENTRIES c =
    too_many c.args.trace c.args.entries.now c.args.bytes.now c.if-entries-ne-COUNT.false
    (tested_both c.args.trace c.args.entries.now c.in_ranges.ensures c.are_entries.ensures c.if-in_ranges-are_entries.true)
    (subst (λ (m : ℕ). 64 < m) (counted c.args.entries.now c.number-ones.ensures.0) c.if-ones-gt-ENTRIES.true)

pub returns-then-in_ranges-are_entries : goal.returns-then-in_ranges-are_entries
returns-then-in_ranges-are_entries c =
    let s = c in
    made s.args.trace s.args.entries.now s.args.bytes.now c.if-entries-ne-COUNT.false
    (tested_both s.args.trace s.args.entries.now c.in_ranges.ensures c.are_entries.ensures c.if-in_ranges-are_entries.true)
    (counted s.args.entries.now c.number-ones.ensures.0) c.if-ones-gt-ENTRIES.false c.fill.ensures
