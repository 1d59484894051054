-- A program that calls `fit_gradient::add` for each line and `fit_adam::step` for each iteration has `fitted` in its memory. Assumes nothing.
use mathlib.Core.Path.{◌≡◌, refl, sym, ap, ◌∙◌, subst}
use mathlib.Core.Bool.{true}
use mathlib.Core.List.{List, [], ◌∷◌}
use Prim.Native.Nat.{ℕ, zero, suc, ◌≤◌}
use native.Mathlib.Omega.{arith}
use borrow.Author.Tests.{eq-eqb, le-leb}
use lib.Ieee.{Float}
use lib.ListN.{length}
use Rattle.laws.proofs.Tables.{tabulate_length}
use Rattle.doubles.specs.Doubles.{d0}
use Rattle.fit_gradient.specs.Lines.{FitLine, AllGood, gradient_fed, gradient_summed}
use Rattle.fit_gradient.specs.Gradient.{line_added}
use Rattle.fit_gradient.proofs.Lines.{in_line_order, line_length}
use Rattle.fit_adam.specs.Adam.{Fit, beta1, beta2, power, stepped, but_pawn, ruled}
use Rattle.fit_adam.specs.Promises.{is_shaped, is_iteration, fit_step, fit_after}
use Rattle.fit_whole.specs.Fitted.{zeros, fitted, Ran, begun, iterated, Long, WholeFit}

zeros_length : length zeros ≡ 779
unfolding zeros
zeros_length = tabulate_length 779 (λ i. d0)

summed_length : (g : List Float) (ls : List FitLine) → length g ≡ 779 → length (gradient_summed g ls) ≡ 779
unfolding gradient_summed
summed_length g [] e = e
summed_length g (l ∷ ls) e = summed_length (line_added l.trace l.entries l.coefficient g) ls
    (line_length l.trace l.entries l.coefficient g ∙ e)

but_pawn_length : (old : List Float) (rule : ℕ → Float) → length (but_pawn old rule) ≡ 779
unfolding but_pawn
but_pawn_length old rule = tabulate_length 779 (ruled old rule)

stepped_long : (p q rate : Float) (g : List Float) (s : Fit) → Long (stepped p q rate g s)
stepped_long p q rate g s = record { m = but_pawn_length _ _; v = but_pawn_length _ _; weights = but_pawn_length _ _ }

shaped : (g : List Float) (s : Fit) → length g ≡ 779 → Long s → is_shaped g s ≡ true
shaped g s e l = rw (
  eq-eqb (length g) 779 e,
  eq-eqb (length s.m) 779 l.m,
  eq-eqb (length s.v) 779 l.v,
  eq-eqb (length s.weights) 779 l.weights,
)

numbered : (n : ℕ) → suc n ≤ 1000000 → is_iteration (suc n) ≡ true
numbered n h = let a : 1 ≤ suc n = omega arith in rw (le-leb 1 (suc n) a, le-leb (suc n) 1000000 h)

worked : (g : List Float) (s u : Fit) (n : ℕ) (rate : Float) → is_shaped g s ≡ true → is_iteration n ≡ true → u ≡ fit_after (fit_step g s n rate) s
    → u ≡ stepped (power beta1 n) (power beta2 n) rate g s
worked g s u n rate e i q = rw (e, i) at q

fitted_long : (lines : ℕ → List FitLine) (rate : Float) (s : Fit) (n : ℕ) → Long s → Long (fitted lines rate s n)
unfolding fitted
fitted_long lines rate s zero l = l
fitted_long lines rate s (suc n) l = stepped_long (power beta1 (suc n)) (power beta2 (suc n)) rate (gradient_summed zeros (lines (suc n)))
    (fitted lines rate s n)

iterations : (lines : ℕ → List FitLine) (rate : Float) (s t : Fit) (n : ℕ) → ((i : ℕ) → AllGood (lines i)) → Long s → n ≤ 1000000 → Ran lines rate s n t
    → t ≡ fitted lines rate s n
unfolding fitted
iterations lines rate s t zero good l h begun = refl
iterations lines rate s u (suc n) good l h (iterated {t = t} {r = r} ran step) =
    let before : t ≡ fitted lines rate s n = iterations lines rate s t n good l (omega arith) ran in
    let sum : gradient_fed zeros (lines (suc n)) ≡ gradient_summed zeros (lines (suc n)) = in_line_order zeros zeros_length (good (suc n)) in
    let long : Long t = subst Long (sym before) (fitted_long lines rate s n l) in
    let g = gradient_fed zeros (lines (suc n)) in
    let e : is_shaped g t ≡ true = shaped g t (ap length sum ∙ summed_length zeros (lines (suc n)) zeros_length) long in
    worked g t u (suc n) rate e (numbered n h) step.lent ∙ rw (sum, before)

pub whole : (lines : ℕ → List FitLine) (rate : Float) (s t : Fit) (n : ℕ) → WholeFit lines rate s t n
whole lines rate s t n = record { fit = iterations lines rate s t n }
