-- `attack_rays::inner::ray` meets its contract. Assumes nothing.
use Rattle.std.proofs.Common.{◌≡◌, ℕ, ◌+◌, ◌-◌, ap, ◌∙◌, arith}
use Rattle.attack_rays.specs.Rays.{ray_of, dir_of}
use Rattle.attack_rays.specs.PrivateMirror.{mirrored}
use Rattle.attack_rays.proofs.Paths.{no_square, no_direction}
use Rattle.attack_rays.proofs.Turn.{ray_turned}
use Rattle.attack_rays.proofs.inner.ray.Goals as goal

pub returns-then-direction-gt-SOUTHWEST : goal.returns-then-direction-gt-SOUTHWEST
returns-then-direction-gt-SOUTHWEST c = let a = c.args in no_direction a.direction a.square a.occupied (omega arith)

pub returns-then-square-gt-LAST : goal.returns-then-square-gt-LAST
returns-then-square-gt-LAST c = let a = c.args in no_square (dir_of a.direction) a.square a.occupied (omega arith)

pub returns : goal.returns
returns c =
    let a = c.args in
    let e : a.direction - 4 + 4 ≡ a.direction = omega arith in
    c.mirror-2.ensures
    ∙ ap mirrored (c.rising-2.ensures ∙ ap (ray_of (dir_of (a.direction - 4)) (63 - a.square)) c.mirror.ensures)
    ∙ ray_turned (a.direction - 4) a.square a.occupied (omega arith) (omega arith)
    ∙ ap (λ (x : ℕ). ray_of (dir_of x) a.square a.occupied) e
