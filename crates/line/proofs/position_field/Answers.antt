-- `line::position_field` meets its contract: the start and the length that were found cut the field out of the line. Assumes nothing.
use native.Mathlib.Omega.{arith}
use Rattle.line.proofs.Cut.{cut_by, by_within}
use Rattle.line.proofs.position_field.Goals as goal

pub overflow_add-end : goal.overflow_add-end
overflow_add-end c =
    let f = c.field_part-part in
    omega (arith, by_within c.args.line.now f.result.start f.result.length f.ensures.start f.ensures.length)

pub returns : goal.returns
returns c =
    let f = c.field_part-part in
    cut_by c.args.line.now f.result.start f.result.length f.ensures.start f.ensures.length

pub slice_bounds-result-end : goal.slice_bounds-result-end
slice_bounds-result-end c =
    let f = c.field_part-part in
    omega (arith, by_within c.args.line.now f.result.start f.result.length f.ensures.start f.ensures.length)
