-- `attack_rays::inner::queen` meets its contract. Assumes nothing.
use Rattle.std.proofs.Common.{◌∙◌, ap₂}
use lib.Bits.{bit_or}
use Rattle.attack_rays.specs.Rays.{straight, slanted}
use Rattle.attack_rays.proofs.Union.{seen_append}
use Rattle.attack_rays.proofs.inner.queen.Goals as goal

pub returns : goal.returns
returns c =
    let a = c.args in
    ap₂ bit_or c.rook.ensures c.bishop.ensures ∙ seen_append straight slanted a.square a.occupied
