-- `exchange::inner::without_passed` meets its contract. Assumes nothing.
use Rattle.exchange.proofs.First.{off_passed}
use Rattle.exchange.proofs.inner.without_passed.Goals as goal

pub returns-then-to-gt-LAST : goal.returns-then-to-gt-LAST
returns-then-to-gt-LAST c =
    let a = c.args in
    off_passed a.side a.to a.b c.ranges.b.fits c.if-side-eq-WHITE.false c.if-to-gt-LAST.true
