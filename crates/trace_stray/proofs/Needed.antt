-- The bound on the score needs its millionth: at the position where demand 3 reaches +85 the double lies beyond 85/30. Assumes nothing.
use mathlib.Core.Path.{refl, subst}
use mathlib.Core.Bool.{true}
use Prim.Native.Nat.{◌*◌}
use native.Mathlib.Omega.{arith}
use lib.IntN.{pos, negsuc, neg_ℤ, ◌*ℤ◌}
use lib.Ieee.{Float, fin}
use Rattle.position.specs.Checked.{of_side}
use Rattle.score_material.specs.Pieces.{count}
use Rattle.claims_examples.proofs.Bounds.{high, high_bytes}
use Rattle.claims_examples.proofs.Fitted.{high_fitted}
use Rattle.claims.proofs.Reached.{highest}
use Rattle.trace_stray.specs.Stray.{million, CloserThan, Needed}

-- its score is -3406
beyond : CloserThan (85 * million) (fin true 7496103774300843 (negsuc 40)) (neg_ℤ (pos 3406) *ℤ pos 30) → ⊥
beyond h = omega arith

pub needed : Needed
unfolding count
needed shown =
    beyond
    (subst (λ (x : Float). CloserThan (85 * million) x (neg_ℤ (pos 3406) *ℤ pos 30)) high_fitted
    (shown high high_bytes (of_side 0) (neg_ℤ (pos 3406)) refl highest.scored))
