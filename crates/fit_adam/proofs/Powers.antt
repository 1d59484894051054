-- The powers of an iteration are those before the first, moved on once for each iteration: so a fit that keeps them from step to step takes
-- the same steps as one that works them out from the iteration's number. Assumes nothing.
use mathlib.Core.Path.{◌≡◌, refl}
use mathlib.Core.Bool.{true}
use mathlib.Core.List.{List}
use Prim.Native.Nat.{ℕ, suc}
use lib.Ieee.{Float}
use Rattle.doubles.specs.Doubles.{d1}
use Rattle.fit_adam.specs.Adam.{Fit, power}
use Rattle.fit_adam.specs.Promises.{is_iteration, powers_next, powers_of, MovesFrom, StepsFrom}
use Rattle.fit_adam.proofs.Doors.{by_powers}
use Rattle.std.specs.Prelude.{Result}
use Rattle.refusal.specs.declared.Refusal.{Refusal}

pub first_powers : powers_of 0 ≡ record { first = d1; second = d1 }
unfolding power
first_powers = refl

pub next_powers : (n : ℕ) → powers_of (suc n) ≡ powers_next (powers_of n)
unfolding power
next_powers n = refl

pub kept_powers : (g : List Float) (s : Fit) (n : ℕ) (rate : Float) (r : Result Unit Refusal) (t : Fit) → is_iteration n ≡ true
    → MovesFrom g s (powers_of n) rate r t → StepsFrom g s n rate r t
kept_powers g s n rate r t e h = by_powers g s rate n (powers_of n) r t e refl h
