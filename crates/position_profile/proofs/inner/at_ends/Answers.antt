-- `position_profile::inner::at_ends` meets its contract. Assumes nothing.
use Rattle.position_profile.proofs.Rules.{strays}
use Rattle.position_profile.proofs.inner.at_ends.Goals as goal

pub returns : goal.returns
returns c =
    strays c.args.bitboards.now c.standing-white.result c.standing-black.result c.standing-white.type_inv c.standing-black.type_inv
    c.standing-white.ensures c.standing-black.ensures
