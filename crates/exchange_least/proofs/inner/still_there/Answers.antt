-- `exchange_least::inner::still_there` meets its contract. Assumes nothing.
use Rattle.exchange_least.proofs.Picked.{three}
use Rattle.exchange_least.proofs.inner.still_there.Goals as goal

pub returns : goal.returns
returns c =
    three c.args.bitboards.now c.args.kind c.args.color c.args.attacks c.args.occupied c.standing.result
    c.ranges.attacks.fits c.ranges.occupied.fits c.standing.ensures
