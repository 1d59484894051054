-- `fit_gradient::add` meets its contract. Assumes nothing.
use Rattle.trace_counts.proofs.Held.{read}
use Rattle.trace_marks.proofs.Tested.{seen_entries, tested_both}
use Rattle.fit_gradient.proofs.Doors.{worked, line}
use Rattle.fit_gradient.proofs.add.Goals as goal

pub returns-then-in_ranges-seen : goal.returns-then-in_ranges-seen
returns-then-in_ranges-seen c =
    let s = c.args in
    let t = s.trace in
    let es = s.entries.now in
    let g = s.gradient.now in
    let u = tested_both t es c.in_ranges.ensures (seen_entries es c.if-entries-ne-COUNT.false c.seen-seen.ensures) c.if-in_ranges-seen.true in
    let x = read t.piece_count c.struct_told-1.given.1.1.1.1.1.1.1.1.0.1 in
    worked t es s.coefficient g c.if-entries-ne-COUNT.false c.if-gradient-ne-COUNT.false u _
    (line t es s.coefficient g c.if-entries-ne-COUNT.false u _ _ _ _ _ c.named_parts-named.ensures x c.square_parts-squares.ensures
    c.named_added.ensures.0 c.squares_added.ensures)
