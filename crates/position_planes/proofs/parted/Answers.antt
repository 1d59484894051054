-- `position_planes::parted` meets its contract. Assumes nothing.
use Rattle.position_planes.proofs.Planes.{all_places}
use Rattle.position_planes.proofs.parted.Goals as goal

pub returns : goal.returns
returns c =
    let a = c.args in
    let f = c.ranges in
    all_places a.a a.b a.c a.d a.beyond f.a.fits f.b.fits f.c.fits f.d.fits f.beyond.fits
