-- `store_text::page::add_up` meets its contract. Assumes nothing.
use Rattle.std.proofs.Common.{refl, ◌∙◌}
use Rattle.laws.specs.Sums.{sum_n}
use Rattle.store_text.specs.Board.{count_on, most_n}
use Rattle.store_text.proofs.Tests.{total_more, most_more}
use Rattle.store_text.proofs.page.add_up.Goals as goal

pub loop-square-init : goal.loop-square-init
unfolding sum_n most_n
loop-square-init c = (refl, refl)

pub loop-square-preserved : goal.loop-square-preserved
loop-square-preserved c =
    let a = c.args in
    let l = c.loop-square in
    let f = count_on a.summary.now a.piece in (
      c.wrapping_add_u64-total.ensures.value ∙ total_more f l.square l.total c.count_on-n.result l.invariant.0
          c.count_on-n.ensures,
      c.larger-most.ensures ∙ most_more f l.square l.most c.count_on-n.result l.invariant.1 c.count_on-n.ensures,
    )
