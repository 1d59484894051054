-- `position_planes::sliced` meets its contract. The loop's invariant: the ranks passed are in. Assumes nothing.
use lib.ListN.{get_or}
use Rattle.position_planes.proofs.Planes.{sliced_none, sliced_next}
use Rattle.position_planes.proofs.sliced.Goals as goal

pub loop-rank-init : goal.loop-rank-init
loop-rank-init c = sliced_none (λ i. get_or c.args.words.now i 0)

pub loop-rank-preserved : goal.loop-rank-preserved
loop-rank-preserved c =
    let l = c.loop-rank in
    let a = c.args in
    sliced_next (λ i. get_or a.words.now i 0) l.rank l.a l.b l.c l.d l.all _ _ _ _ l.invariant
    c.gathered.ensures c.gathered-in-loop-rank.ensures c.gathered-in-loop-rank-2.ensures c.gathered-in-loop-rank-3.ensures
