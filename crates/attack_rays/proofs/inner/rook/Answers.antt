-- `attack_rays::inner::rook` meets its contract. Assumes nothing.
use Rattle.std.proofs.Common.{arith}
use Rattle.attack_rays.specs.Rays.{north, east, south, west}
use Rattle.attack_rays.proofs.Both.{unseen}
use Rattle.attack_rays.proofs.inner.rook.Goals as goal

pub returns-then-square-gt-LAST : goal.returns-then-square-gt-LAST
returns-then-square-gt-LAST c = let a = c.args in unseen north east south west a.square a.occupied (omega arith)
