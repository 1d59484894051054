-- `store_joined::add` meets its contract: the places before one have both sums. Assumes nothing.
use Rattle.std.proofs.Common.{arith}
use Rattle.store_joined.proofs.Added.{all_added}
use Rattle.store_joined.proofs.add.Goals as goal

pub returns : goal.returns
returns c =
    let l = c.loop-place in
    let a = c.args in
    all_added a.summary.now a.more.now l.place l.summary l.invariant (omega arith)
