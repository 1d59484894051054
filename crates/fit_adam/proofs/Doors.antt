-- What the doors return: one law for each return. Assumes nothing.
use mathlib.Core.Path.{◌≡◌, refl, sym, ap, subst, ◌∙◌}
use mathlib.Core.Bool.{Bool, true, false, ◌&&◌, ◌||◌}
use mathlib.Mathlib.Data.Bool.Basic.{or-eq-false-eq-eq-false-and-eq-false}
use mathlib.Core.List.{List}
use Prim.Native.Nat.{ℕ, ◌≤◌, ◌<◌}
use native.Mathlib.Omega.{arith}
use borrow.Author.Tests.{le-leb, lt-leb, eqb-true, eqb-false, ltb-true, ltb-false}
use lib.Dec.{eqb, ltb}
use lib.Ieee.{Float}
use lib.ListN.{length}
use Rattle.laws.proofs.Truth.{true_T, T_true, and_l, and_r}
use Rattle.refusal.specs.Answer.{Answer, given, or_refuse}
use Rattle.fit_adam.specs.Adam.{Fit, beta1, beta2, power, stepped}
use Rattle.fit_adam.specs.Promises.{is_shaped, is_iteration, moved_of, fit_step, Answers, MovesFrom, StepsFrom, powers_of}
use Rattle.refusal.specs.declared.Refusal.TheVariants as R
use Rattle.fit_adam.specs.declared.inner.Powers.{Powers}
use Rattle.std.specs.Prelude.{Result, Ok, Err}
use Rattle.refusal.specs.declared.Refusal.{Refusal}

-- the four lengths that the test says
pub lengths : (g : List Float) (s : Fit) → is_shaped g s ≡ true → (length g ≡ 779) × (length s.m ≡ 779) × (length s.v ≡ 779) × (length s.weights ≡ 779)
lengths g s e =
    let a = eqb (length g) 779 in
    let b = eqb (length s.m) 779 in
    let c = eqb (length s.v) 779 in
    let d = eqb (length s.weights) 779 in
    let all = true_T e in
    let abc = and_l (a && b && c) d all in
    let ab = and_l (a && b) c abc in (
      eqb-true _ _ (T_true a (and_l a b ab)),
      eqb-true _ _ (T_true b (and_r a b ab)),
      eqb-true _ _ (T_true c (and_r (a && b) c abc)),
      eqb-true _ _ (T_true d (and_r (a && b && c) d all)),
    )

module _ (g : List Float) (s : Fit) (rate : Float) where
  pub unshaped : (powers : Powers) → is_shaped g s ≡ false → MovesFrom g s powers rate (Err R.Shape) s
  unshaped powers e = record { answer = rw e; lent = rw e }

  pub walked : (powers : Powers) (t : Fit) → is_shaped g s ≡ true → t ≡ stepped powers.first powers.second rate g s → MovesFrom g s powers rate (Ok tt) t
  walked powers t e q = record { answer = rw e; lent = rw e q }

  pub refused_shape : (n : ℕ) → is_shaped g s ≡ false → StepsFrom g s n rate (Err R.Shape) s
  refused_shape n e = record { answer = rw e; lent = rw e }

  pub refused_iteration : (n : ℕ) → is_shaped g s ≡ true → is_iteration n ≡ false → StepsFrom g s n rate (Err R.Iteration) s
  refused_iteration n e q = record { answer = rw (e, q); lent = rw (e, q) }

  -- by an iteration's powers, a step is the iteration's
  pub by_powers : (n : ℕ) (powers : Powers) (r : Result Unit Refusal) (t : Fit) → is_iteration n ≡ true → powers ≡ powers_of n → MovesFrom g s powers rate r t
      → StepsFrom g s n rate r t
  by_powers n powers r t e p h =
      let q : moved_of g s powers rate ≡ fit_step g s n rate =
      ap (λ (x : Powers). moved_of g s x rate) p
      ∙ sym (ap (λ (b : Bool). or_refuse (is_shaped g s) R.Shape (or_refuse b R.Iteration (given (stepped (power beta1 n) (power beta2 n) rate g s)))) e) in
      subst (λ (a : Answer Fit). Answers a s r t) q h

-- ---- the test of the number
pub within : (n : ℕ) → (eqb n 0 || ltb 1000000 n) ≡ false → is_iteration n ≡ true
within n e =
    let t = (or-eq-false-eq-eq-false-and-eq-false (eqb n 0) (ltb 1000000 n)).0 e in
    let p : n ≡ 0 → ⊥ = eqb-false n 0 t.0 in
    let a : 1 ≤ n = omega (arith, p) in
    let b : n ≤ 1000000 = ltb-false 1000000 n t.1 in
    rw (le-leb 1 n a, le-leb n 1000000 b)

pub outside : (n : ℕ) → (eqb n 0 || ltb 1000000 n) ≡ true → is_iteration n ≡ false
outside n e = go (eqb n 0) (ltb 1000000 n) refl refl e
  where
    go : (a b : Bool) → eqb n 0 ≡ a → ltb 1000000 n ≡ b → (a || b) ≡ true → is_iteration n ≡ false
    go true b p q r = let z : n ≡ 0 = eqb-true n 0 p in rw z
    go false true p q r =
        let z : 1000000 < n = ltb-true 1000000 n q in
        let y : 1 ≤ n = omega arith in
        rw (le-leb 1 n y, lt-leb n 1000000 z)
    go false false p q r = absurd (subst (λ (x : Bool). lib.Dec.T x) (sym r) tt)
