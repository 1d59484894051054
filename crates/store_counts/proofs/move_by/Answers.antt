-- `store_counts::move_by` meets its contract: after k squares each place has what the first k squares bring. Assumes nothing.
use Rattle.std.proofs.Common.{ℕ, ap, ◌∙◌, arith}
use Rattle.store_counts.specs.Summary.{marked_on}
use Rattle.store_counts.proofs.Marks.{marks_none, marks_more, marks_all}
use Rattle.store_counts.proofs.move_by.Goals as goal

pub loop-k-init : goal.loop-k-init
loop-k-init c =
    let a = c.args in
    marks_none a.summary.now a.once a.bytes.now c.requires.0 (λ p. omega (arith, c.type_inv.summary p))

pub loop-k-preserved : goal.loop-k-preserved
loop-k-preserved c =
    let l = c.loop-k in
    let a = c.args in
    c.mark.ensures ∙ ap (λ (x : ℕ). marked_on l.summary x l.k a.once) c.code_on.ensures
    ∙ marks_more a.summary.now a.once a.bytes.now l.k (omega arith) l.summary l.invariant

pub returns : goal.returns
returns c =
    let l = c.loop-k in
    let a = c.args in
    marks_all a.summary.now a.once a.bytes.now a.points l.summary l.k c.sum.result c.sum-2.result
    (omega arith) l.invariant c.sum.ensures c.sum-2.ensures
