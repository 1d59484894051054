-- `attack_to::inner::is_attacked` meets its contract. Assumes nothing.
use Rattle.attack_to.proofs.Checks.{attacked}
use Rattle.attack_to.proofs.inner.is_attacked.Goals as goal

pub returns : goal.returns
returns c =
    let a = c.args in
    attacked a.bitboards.now a.square a.color _ _ _ _ _ c.attacks_to-attackers.type_inv c.at.type_inv
    c.occupied.ensures c.attacks_to-attackers.ensures c.other.ensures
    c.index.ensures c.at.ensures
