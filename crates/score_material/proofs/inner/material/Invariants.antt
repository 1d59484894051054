use mathlib.Core.Path.{◌≡◌}
use Prim.Native.Nat.{◌*◌, ◌≤◌}
use Rattle.laws.specs.Sums.{sum_n}
use Rattle.score_material.specs.Pieces.{count}
use Rattle.chess.specs.Values.{value_of}
use Rattle.score_material.proofs.inner.material.Given as goal

abbrev pub invariant-loop-kind : goal.invariant-loop-kind
invariant-loop-kind l = (l.sum ≡ sum_n l.kind (λ k. count l.bitboards k l.color * value_of k)) × (l.sum ≤ 640000 * l.kind)
