-- `attack_rays::inner::mirror` meets its contract. Assumes nothing.
use Rattle.std.proofs.Common.{lit<}
use Rattle.laws.specs.Tests.{all_below}
use Rattle.attack_rays.specs.PrivateMirror.{paired}
use Rattle.attack_rays.proofs.Pairs.{six}
use Rattle.attack_rays.proofs.inner.mirror.Goals as goal

pub swapped-a-requires : goal.swapped-a-requires
unfolding paired all_below
swapped-a-requires c = (lit< tt, tt)

pub swapped-b-requires : goal.swapped-b-requires
unfolding paired all_below
swapped-b-requires c = (lit< tt, tt)

pub swapped-c-requires : goal.swapped-c-requires
unfolding paired all_below
swapped-c-requires c = (lit< tt, tt)

pub swapped-d-requires : goal.swapped-d-requires
unfolding paired all_below
swapped-d-requires c = (lit< tt, tt)

pub swapped-e-requires : goal.swapped-e-requires
unfolding paired all_below
swapped-e-requires c = (lit< tt, tt)

pub swapped-requires : goal.swapped-requires
unfolding paired all_below
swapped-requires c = (lit< tt, tt)

pub returns : goal.returns
returns c = let swapped = c.swapped-a in
    six _ _ _ _ _ _ _ swapped.ensures c.swapped-b.ensures c.swapped-c.ensures
    c.swapped-d.ensures c.swapped-e.ensures c.swapped.ensures
