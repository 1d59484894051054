-- A fit, by document 02, W-211: "This is the tuner's step, one collection at a time": each iteration sums the gradient of the collection in
-- line order from zeros, with the coefficients that the caller supplies for it, and takes one step. Definitions only.
use Rattle.std.specs.Prelude.{◌≡◌, List, ℕ, zero, suc, ◌≤◌, length, Float, Result}
use Rattle.laws.specs.Tables.{tabulate}
use Rattle.doubles.specs.Doubles.{d0}
use Rattle.fit_gradient.specs.Lines.{FitLine, AllGood, gradient_fed, gradient_summed}
use Rattle.fit_adam.specs.Adam.{Fit, beta1, beta2, power, stepped}
use Rattle.fit_adam.specs.Promises.{StepsFrom}
use Rattle.refusal.specs.declared.Refusal.{Refusal}

-- 779 sums of nothing
unfoldable pub zeros : List Float
unfolding tabulate
zeros = tabulate 779 (λ i. d0)

-- what the fit is after n iterations; `lines i` are the collection's lines with the coefficients of iteration i
unfoldable pub fitted : (ℕ → List FitLine) → Float → Fit → ℕ → Fit
unfolding zeros gradient_summed power
fitted lines rate s zero = s
fitted lines rate s (suc n) = stepped (power beta1 (suc n)) (power beta2 (suc n)) rate (gradient_summed zeros (lines (suc n))) (fitted lines rate s n)

-- what a program does that calls `fit_gradient::add` for each line of an iteration, from zeros, and then `fit_adam::step`: the memory after n
-- iterations is t
pub data Ran (lines : ℕ → List FitLine) (rate : Float) (s : Fit) : ℕ → Fit → Type 0 where
  begun : Ran lines rate s 0 s
  iterated : {n : ℕ} {t u : Fit} {r : Result Unit Refusal} → Ran lines rate s n t → StepsFrom (gradient_fed zeros (lines (suc n))) t (suc n) rate r u
      → Ran lines rate s (suc n) u

-- both moments and the weights are 779 long
pub record Long (s : Fit) : Type 0 where
  pub m : length s.m ≡ 779
  pub v : length s.v ≡ 779
  pub weights : length s.weights ≡ 779

-- THE FIT: whatever memory a program has after n iterations is `fitted`, for lines that are not refused, any coefficients, any rate, up to
-- 1,000,000 iterations
pub record WholeFit (lines : ℕ → List FitLine) (rate : Float) (s t : Fit) (n : ℕ) : Type 0 where
  pub fit : ((i : ℕ) → AllGood (lines i)) → Long s → n ≤ 1000000 → Ran lines rate s n t → t ≡ fitted lines rate s n
