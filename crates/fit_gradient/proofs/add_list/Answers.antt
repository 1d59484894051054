-- `fit_gradient::add_list` meets its contract. Assumes nothing.
use mathlib.Core.Path.{sym, ◌∙◌}
use Rattle.laws.proofs.Truth.{true_T}
use Rattle.trace_counts.proofs.Held.{read}
use Rattle.fit_gradient.proofs.Lists.{list_line, list_worked}
use Rattle.fit_gradient.proofs.add_list.Goals as goal

pub returns-then-is_list : goal.returns-then-is_list
returns-then-is_list c =
    let t = c.args.trace in
    let x = read t.piece_count c.struct_told-1.given.1.1.1.1.1.1.1.1.0.1 in
    list_worked c.args.trace c.args.used c.args.bytes.now c.args.coefficient c.args.gradient.now c.if-gradient-ne-COUNT.false
    c.in_ranges.ensures c.if-in_ranges.true c.is_list.ensures c.if-is_list.true _
    (list_line c.args.trace c.args.used c.args.bytes.now c.args.coefficient c.args.gradient.now
    (true_T (sym c.is_list.ensures ∙ c.if-is_list.true)) (sym c.in_ranges.ensures ∙ c.if-in_ranges.true) _ _ _ _ _ _
    c.index.ensures c.named_parts-named.ensures x c.square_parts-squares.ensures c.named_added.ensures.0 c.list_added.ensures)
