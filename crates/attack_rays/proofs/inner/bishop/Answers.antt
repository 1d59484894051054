-- `attack_rays::inner::bishop` meets its contract. Assumes nothing.
use Rattle.std.proofs.Common.{arith}
use Rattle.attack_rays.specs.Rays.{north_west, north_east, south_east, south_west}
use Rattle.attack_rays.proofs.Both.{unseen}
use Rattle.attack_rays.proofs.inner.bishop.Goals as goal

pub returns-then-square-gt-LAST : goal.returns-then-square-gt-LAST
returns-then-square-gt-LAST c = let a = c.args in unseen north_west north_east south_east south_west a.square a.occupied (omega arith)
