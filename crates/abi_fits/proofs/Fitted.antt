-- How the answers of the fitting step pass their doors. Assumes nothing.
use mathlib.Core.Path.{◌≡◌, refl, sym, ap, ◌∙◌, subst}
use mathlib.Core.List.{List}
use Prim.Native.Nat.{ℕ}
use lib.Ieee.{Float}
use lib.IntN.{ℤ}
use Rattle.refusal.specs.Answer.{Answer, given, refused, answered}
use Rattle.trace_counts.specs.declared.Trace.{Trace}
use Rattle.fit_gradient.specs.Promises as G
use Rattle.fit_adam.specs.Adam.{Fit}
use Rattle.fit_adam.specs.Promises as A
use Rattle.abi_codes.specs.Codes.{answer_number, lent_after}
use Rattle.abi_codes.specs.Codes.{Door}
use Rattle.abi_fits.specs.Promises.{StepsAdam}
use Rattle.abi_codes.specs.declared.Code.{Code}
use Rattle.std.specs.Prelude.{Result}
use Rattle.refusal.specs.declared.Refusal.{Refusal}

-- ---- the gradient
pub sums_code : (a : Answer (List Float)) → answer_number (G.added_by_value a) ≡ answer_number a
sums_code (given g) = refl
sums_code (refused n l) = refl

pub sums_after : (a : Answer (List Float)) (old : List Float) → G.gradient_after a old ≡ lent_after (λ (g : List Float). g) old a
sums_after (given g) old = refl
sums_after (refused n l) old = refl

-- the trace that the call was handed is that of the lent numbers
pub line_passed : {t u : Trace} {entries : List ℤ} {c : Float} {old new : List Float} {r x : Result Unit Refusal} {n : Code} → G.AddsTrace t entries c old r new
    → t ≡ u → r ≡ x
    → n ≡ answer_number (answered x) → Door (G.added_of u entries c old) (λ (g : List Float). g) old n new
line_passed {u = u} {entries = entries} {c = c} {old = old} {new = new} {r = r} p e m h =
    let q : G.AddsTrace u entries c old r new = subst (λ (t : Trace). G.AddsTrace t entries c old r new) e p in
    let a = G.added_of u entries c old in
    record { code = h ∙ ap (λ (y : Result Unit Refusal). answer_number (answered y)) (sym m) ∙ ap answer_number q.answer ∙ sums_code a; lent = q.lent ∙ sums_after a old }

-- ---- the step
fit_code : (a : Answer Fit) → answer_number (A.stepped_by_value a) ≡ answer_number a
fit_code (given s) = refl
fit_code (refused n l) = refl

pub step_passed : {g m v w m' v' w' : List Float} {i : ℕ} {rate : Float} {r x : Result Unit Refusal} {n : Code} → A.StepsFit g m v w i rate r m' v' w' → r ≡ x
    → n ≡ answer_number (answered x) → StepsAdam g m v w i rate n m' v' w'
step_passed {g = g} {m = m} {v = v} {w = w} {i = i} {rate = rate} p e h =
    record {
      code = h ∙ ap (λ (y : Result Unit Refusal). answer_number (answered y)) (sym e) ∙ ap answer_number p.answer
          ∙ fit_code (A.fit_step g (A.fit_from m v w) i rate);
      lent = p.lent;
    }
