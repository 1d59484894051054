-- `attack_rays::inner::way` meets its contract. Assumes nothing.
use Rattle.std.proofs.Common.{arith}
use Rattle.attack_rays.proofs.Ways.{north, east, north_west_holds, north_east_holds}
use Rattle.attack_rays.proofs.inner.way.Goals as goal

pub returns-in-0 : goal.returns-in-0
returns-in-0 c = let a = c.args in north a.direction a.square c.requires.1 c.in-0.is

pub returns-in-1 : goal.returns-in-1
returns-in-1 c = let a = c.args in east a.direction a.square c.requires.1 c.in-1.is

pub returns-in-2 : goal.returns-in-2
returns-in-2 c = let a = c.args in north_west_holds a.direction a.square c.requires.1 c.in-2.is

pub returns-in_default : goal.returns-in_default
returns-in_default c = let a = c.args in north_east_holds a.direction a.square c.requires.1 (omega arith)
