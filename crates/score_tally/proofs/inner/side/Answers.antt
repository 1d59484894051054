-- `score_tally::inner::side` meets its contract. Assumes nothing.
use mathlib.Core.Path.{◌≡◌, ap₂, ◌∙◌}
use Prim.Native.Nat.{ℕ, ◌+◌}
use native.Mathlib.Omega.{arith}
use lib.IntN.{ℤ}
use mir.Facts.{to_z-of_z}
use mir.Syntax.{w32}
use Rattle.score_taper.specs.declared.Side.{Side}
use Rattle.score_material.proofs.Pieces.{worth_small, pair_small, material_of_holds}
use Rattle.score_tally.proofs.inner.side.Goals as goal

same : (o p e q : ℤ) (w v m : ℕ) → o ≡ p → e ≡ q → w ≡ v → ◌≡◌ {A = Side} (record { opening = o; ending = e; material = w; mobility = m })
    (record { opening = p; ending = q; material = v; mobility = m })
same o p e q w v m h i j = cc

pub overflow_add-result : goal.overflow_add-result
overflow_add-result c =
    let a = c.args in
    record {
      fits = omega (
        arith,
        c.pair.ensures,
        c.material.ensures,
        worth_small a.bitboards.now a.color,
        pair_small a.bitboards.now a.color,
      );
    }

pub returns : goal.returns
returns c =
    let a = c.args in
    same _ _ _ _ _ _ a.mobility (to_z-of_z {w = w32} c.ranges.opening) (to_z-of_z {w = w32} c.ranges.ending)
    (ap₂ ◌+◌ c.material.ensures c.pair.ensures ∙ material_of_holds a.bitboards.now a.color)
