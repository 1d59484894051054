-- `attack_rays::inner::lines` meets its contract. Assumes nothing.
use Rattle.attack_rays.proofs.Both.{both}
use Rattle.attack_rays.proofs.inner.lines.Goals as goal

pub returns : goal.returns
returns c =
    let a = c.args in
    let pre = c.requires in
    both a.first a.second a.square a.occupied pre.0 pre.1 pre.2 _ _ _ _ _ _
    c.mirror-mirrored.ensures c.rising-a.ensures c.rising-b.ensures
    c.rising-c.ensures c.rising-d.ensures c.mirror.ensures
