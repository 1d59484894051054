-- What each function answers and promises, for all inputs. Definitions only.
use Rattle.std.specs.Prelude.{◌≡◌, Bool, ◌&&◌, List, ℕ, eqb, leb, Float, length, Result}
use Rattle.refusal.specs.Answer.{Answer, given, refused, or_refuse, answered}
use Rattle.refusal.specs.declared.Refusal.TheVariants as R
use Rattle.doubles.specs.Doubles.{◌⊗◌, d1}
use Rattle.fit_adam.specs.Adam.{Fit, beta1, beta2, power, stepped}
use Rattle.fit_adam.specs.declared.inner.Powers.{Powers}
use Rattle.refusal.specs.declared.Refusal.{Refusal}

-- SHAPE "for gradient, moments or weights not 779 long"
abbrev pub is_shaped : List Float → Fit → Bool
is_shaped g s = eqb (length g) 779 && eqb (length s.m) 779 && eqb (length s.v) 779 && eqb (length s.weights) 779

abbrev pub fit_from : List Float → List Float → List Float → Fit
fit_from m v w = record { m = m; v = v; weights = w }

abbrev pub TestsShape : List Float → List Float → List Float → List Float → Bool → Type 0
TestsShape g m v w r = r ≡ is_shaped g (fit_from m v w)

-- "23 ITERATION for an iteration number of zero or above 1,000,000"
abbrev pub is_iteration : ℕ → Bool
is_iteration n = leb 1 n && leb n 1000000

-- a step by any two powers: SHAPE, or what the fit is after it
abbrev pub moved_of : List Float → Fit → Powers → Float → Answer Fit
moved_of g s powers rate = or_refuse (is_shaped g s) R.Shape (given (stepped powers.first powers.second rate g s))

-- the step of an iteration: SHAPE, then ITERATION
abbrev pub fit_step : List Float → Fit → ℕ → Float → Answer Fit
fit_step g s n rate =
    or_refuse (is_shaped g s) R.Shape (or_refuse (is_iteration n) R.Iteration (given (stepped (power beta1 n) (power beta2 n) rate g s)))

-- what comes back by value, and what stands in lent memory: "Every refusal .. changes no lent byte"
abbrev pub stepped_by_value : Answer Fit → Answer Unit
stepped_by_value (given s) = given tt
stepped_by_value (refused n l) = refused n l

abbrev pub fit_after : Answer Fit → Fit → Fit
fit_after (given s) old = s
fit_after (refused n l) old = old

pub record Answers (a : Answer Fit) (old : Fit) (r : Result Unit Refusal) (new : Fit) : Type 0 where
  pub answer : answered r ≡ stepped_by_value a
  pub lent : new ≡ fit_after a old

abbrev pub StepsFrom : List Float → Fit → ℕ → Float → Result Unit Refusal → Fit → Type 0
StepsFrom g s n rate r t = Answers (fit_step g s n rate) s r t

abbrev pub MovesFrom : List Float → Fit → Powers → Float → Result Unit Refusal → Fit → Type 0
MovesFrom g s powers rate r t = Answers (moved_of g s powers rate) s r t

-- the gradient, both moments and the weights before; the iteration and the rate; what comes back, both moments and the weights after
abbrev pub StepsFit : List Float → List Float → List Float → List Float → ℕ → Float → Result Unit Refusal → List Float → List Float → List Float → Type 0
StepsFit g m v w n rate r m' v' w' = StepsFrom g (fit_from m v w) n rate r (fit_from m' v' w')

abbrev pub Moves : List Float → List Float → List Float → List Float → Powers → Float → Result Unit Refusal → List Float → List Float → List Float → Type 0
Moves g m v w powers rate r m' v' w' = MovesFrom g (fit_from m v w) powers rate r (fit_from m' v' w')

-- the powers before the first iteration, and one iteration on
abbrev pub StartsPowers : Powers → Type 0
StartsPowers r = r ≡ record { first = d1; second = d1 }

abbrev pub powers_next : Powers → Powers
powers_next p = record { first = p.first ⊗ beta1; second = p.second ⊗ beta2 }

abbrev pub NextPowers : Powers → Powers → Type 0
NextPowers p r = r ≡ powers_next p

-- the powers of an iteration
abbrev pub powers_of : ℕ → Powers
powers_of n = record { first = power beta1 n; second = power beta2 n }

abbrev pub PowersOf : ℕ → Powers → Type 0
PowersOf n r = r ≡ powers_of n
