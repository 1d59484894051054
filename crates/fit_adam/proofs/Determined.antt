-- Each public function is determined by its promise: two results and memories that it allows are equal, two NaNs being one. Assumes nothing.
use mathlib.Core.Path.{◌≡◌, ap}
use mathlib.Core.Bool.{Bool}
use mathlib.Core.List.{List}
use Prim.Native.Nat.{ℕ}
use lib.Ieee.{Float}
use Rattle.refusal.specs.Answer.{Answer}
use Rattle.refusal.proofs.Paper.{one, answered_one}
use Rattle.fit_adam.specs.Adam.{Fit}
use Rattle.fit_adam.specs.Promises.{fit_from, Answers, StepsFit, Moves, StartsPowers, NextPowers, PowersOf, TestsShape}
use Rattle.fit_adam.specs.declared.inner.Powers.{Powers}
use Rattle.std.specs.Prelude.{Result}
use Rattle.refusal.specs.declared.Refusal.{Refusal}

-- ---- answers that read the same are one
answers_one : (a : Answer Fit) (old : Fit) (r s : Result Unit Refusal) (t u : Fit) → Answers a old r t → Answers a old s u → (r ≡ s) × (t ≡ u)
answers_one a old r s t u p q = (answered_one p.answer q.answer, one p.lent q.lent)

-- ---- the functions; equal fits have equal moments and weights
pub step : (g m v w : List Float) (n : ℕ) (rate : Float) (r s : Result Unit Refusal) (m₁ v₁ w₁ m₂ v₂ w₂ : List Float) → StepsFit g m v w n rate r m₁ v₁ w₁
    → StepsFit g m v w n rate s m₂ v₂ w₂ → (r ≡ s) × (m₁ ≡ m₂) × (v₁ ≡ v₂) × (w₁ ≡ w₂)
step g m v w n rate r s m₁ v₁ w₁ m₂ v₂ w₂ p q =
    let e = answers_one _ (fit_from m v w) r s (fit_from m₁ v₁ w₁) (fit_from m₂ v₂ w₂) p q in
    (e.0, ap (λ (x : Fit). x.m) e.1, ap (λ (x : Fit). x.v) e.1, ap (λ (x : Fit). x.weights) e.1)

pub moved : (g m v w : List Float) (powers : Powers) (rate : Float) (r s : Result Unit Refusal) (m₁ v₁ w₁ m₂ v₂ w₂ : List Float) → Moves g m v w powers rate r m₁ v₁ w₁
    → Moves g m v w powers rate s m₂ v₂ w₂ → (r ≡ s) × (m₁ ≡ m₂) × (v₁ ≡ v₂) × (w₁ ≡ w₂)
moved g m v w powers rate r s m₁ v₁ w₁ m₂ v₂ w₂ p q =
    let e = answers_one _ (fit_from m v w) r s (fit_from m₁ v₁ w₁) (fit_from m₂ v₂ w₂) p q in
    (e.0, ap (λ (x : Fit). x.m) e.1, ap (λ (x : Fit). x.v) e.1, ap (λ (x : Fit). x.weights) e.1)

pub start : (r s : Powers) → StartsPowers r → StartsPowers s → r ≡ s
start r s = one

pub next : (p r s : Powers) → NextPowers p r → NextPowers p s → r ≡ s
next p r s = one

pub powers_of_holds : (n : ℕ) (r s : Powers) → PowersOf n r → PowersOf n s → r ≡ s
powers_of_holds n r s = one

pub is_shaped_holds : (g m v w : List Float) (r s : Bool) → TestsShape g m v w r → TestsShape g m v w s → r ≡ s
is_shaped_holds g m v w r s = one
