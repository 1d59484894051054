-- `trace_list_computed::turned` meets its contract. Assumes nothing.
use lib.Dec.{lit<}
use Rattle.laws.specs.Tests.{all_below}
use Rattle.attack_rays.specs.PrivateMirror.{paired}
use Rattle.trace_list_computed.proofs.Flipped.{three}
use Rattle.trace_list_computed.proofs.turned.Goals as goal

pub swapped-a-requires : goal.swapped-a-requires
unfolding paired all_below
swapped-a-requires c = (lit< tt, tt)

pub swapped-b-requires : goal.swapped-b-requires
unfolding paired all_below
swapped-b-requires c = (lit< tt, tt)

pub swapped-requires : goal.swapped-requires
unfolding paired all_below
swapped-requires c = (lit< tt, tt)

pub returns : goal.returns
returns c = three _ _ _ _ c.swapped-a.ensures c.swapped-b.ensures c.swapped.ensures
