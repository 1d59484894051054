-- `exchange::inner::list` meets its contract. Assumes nothing.
use mathlib.Core.Path.{subst}
use mathlib.Core.List.{List}
use Rattle.exchange.specs.Exchange.{Capture}
use Rattle.exchange.specs.Promises.{HoldsCaptures}
use Rattle.exchange.proofs.First.{all_followed}
use Rattle.exchange.proofs.inner.list.Goals as goal

pub returns : goal.returns
returns c =
    let a = c.args in
    subst (λ (cs : List Capture). HoldsCaptures cs c.follow.result)
    (all_followed a.mode a.kinds.now a.bitboards.now a.board.now a.state a.from a.to c.begin-begun.result c.begin-begun.ensures)
    c.follow.ensures
