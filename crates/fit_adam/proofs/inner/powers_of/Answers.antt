-- `fit_adam::inner::powers_of` meets its contract. The loop's invariant: both are the running products so far. Assumes nothing.
use mathlib.Core.Path.{◌≡◌, refl, ap}
use Prim.Native.Nat.{ℕ, ◌+◌}
use native.Mathlib.Numerals.{add-one}
use lib.Ieee.{Float}
use Rattle.doubles.specs.Doubles.{◌⊗◌}
use Rattle.fit_adam.specs.Adam.{beta1, beta2, power}
use Rattle.fit_adam.proofs.inner.powers_of.Goals as goal

-- one factor more
more : (beta p : Float) (i : ℕ) → p ≡ power beta i → p ⊗ beta ≡ power beta (i + 1)
unfolding power
more beta p i e = rw add-one (ap (λ (x : Float). x ⊗ beta) e)

pub loop-init : goal.loop-init
unfolding power
loop-init c = (refl, refl)

pub loop-preserved : goal.loop-preserved
loop-preserved c =
    let l = c.loop in
    (more beta1 l.first l.counter l.invariant.0, more beta2 l.second l.counter l.invariant.1)
