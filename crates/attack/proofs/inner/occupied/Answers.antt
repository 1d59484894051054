-- `attack::inner::occupied` meets its contract. Assumes nothing.
use mathlib.Core.Path.{ap₂, ◌∙◌}
use mathlib.Core.Bool.{◌||◌}
use Prim.Native.Nat.{ℕ}
use Rattle.bits.specs.Bitboard.{has, those}
use Rattle.attack.specs.Attacks.{occupied}
use Rattle.attack.proofs.inner.occupied.Goals as goal

pub returns : goal.returns
unfolding occupied
returns c =
    c.union.ensures ∙ ap₂ (λ (a b : ℕ). those 64 (λ k. has a k || has b k)) c.at.ensures c.at-2.ensures
