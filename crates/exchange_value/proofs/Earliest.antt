-- The stopping point from the last capture back, as the loop finds it: the earliest that does not pay, 0 for none. Assumes nothing.
use mathlib.Core.Path.{◌≡◌, refl, sym, ap, ap₂, ◌∙◌}
use mathlib.Core.Bool.{Bool, true, false, cond}
use mathlib.Core.List.{List, [], ◌∷◌}
use Prim.Native.Nat.{ℕ, zero, suc, ◌-◌, ◌≤◌, ◌<◌}
use native.Mathlib.Omega.{arith}
use lib.Dec.{eqb}
use lib.IntN.{ℤ, pos, negsuc}
use lib.ListN.{length, get_or, drop, drop_of_length-le}
use borrow.Author.Tests.{ne_eqb}
use Rattle.laws.proofs.Diff.{above_zero_rule}
use Rattle.exchange_value.specs.Settled.{settled}
use Rattle.exchange_value.specs.Stop.{Stop, played_out, before, not_above, earliest, stop_of}
use Rattle.exchange_value.proofs.Backward.{gain, front}

abbrev pub number : Stop → ℕ
number played_out = 0
number (before i) = i

above_up : (z : ℤ) → eqb (above_zero_rule z) 0 ≡ not_above z
above_up (pos zero) = refl
above_up (pos (suc n)) = ne_eqb (suc n) 0 (λ e. omega arith)
above_up (negsuc n) = refl

abbrev pub found : List ℕ → ℕ → ℕ
found vs k = number (earliest k (drop k vs))

pub none_found : (vs : List ℕ) → 0 ≡ found vs (length vs)
unfolding earliest
none_found vs = sym (ap (λ (l : List ℕ). number (earliest (length vs) l)) (drop_of_length-le vs {i = length vs} (omega arith)))

number_cons : (k v : ℕ) (vs : List ℕ) → number (earliest k (v ∷ vs)) ≡ cond (not_above (settled (v ∷ vs))) k (number (earliest (suc k) vs))
unfolding earliest
number_cons k v vs = go (not_above (settled (v ∷ vs)))
  where
    go : (t : Bool) → number (cond t (before k) (earliest (suc k) vs)) ≡ cond t k (number (earliest (suc k) vs))
    go true = refl
    go false = refl

module _ (vs : List ℕ) (k : ℕ) (one : 1 ≤ k) (below : k ≤ length vs) where
  pub found_back : (next before : ℕ) → next ≡ gain vs (k - 1) → before ≡ found vs k → cond (eqb next 0) (k - 1) before ≡ found vs (k - 1)
  found_back next b en eb =
      let e : suc (k - 1) ≡ k = omega arith in
      let x : ℕ = get_or vs (k - 1) 0 in
      ap₂ (λ (t : Bool) (n : ℕ). cond t (k - 1) n)
      (ap (λ (n : ℕ). eqb n 0) (en ∙ ap (λ (l : List ℕ). above_zero_rule (settled l)) (front vs k one below)) ∙ above_up (settled (x ∷ drop k vs)))
      (eb ∙ ap (λ (j : ℕ). number (earliest j (drop k vs))) (sym e))
      ∙ sym (ap (λ (l : List ℕ). number (earliest (k - 1) l)) (front vs k one below) ∙ number_cons (k - 1) x (drop k vs))

number_zero : (k : ℕ) (vs : List ℕ) → number (earliest (suc k) vs) ≡ 0 → earliest (suc k) vs ≡ played_out
unfolding earliest
number_zero k [] e = refl
number_zero k (v ∷ vs) e = go (not_above (settled (v ∷ vs))) e (number_zero (suc k) vs)
  where
    go : (t : Bool) → number (cond t (before (suc k)) (earliest (suc (suc k)) vs)) ≡ 0
        → (number (earliest (suc (suc k)) vs) ≡ 0 → earliest (suc (suc k)) vs ≡ played_out) → cond t (before (suc k)) (earliest (suc (suc k)) vs) ≡ played_out
    go true q ih = absurd (omega arith)
    go false q ih = ih q

number_some : (s : Stop) → (number s ≡ 0 → ⊥) → before (number s) ≡ s
number_some played_out ne = absurd (ne refl)
number_some (before i) ne = refl

pub stop_none : (vs : List ℕ) → length vs ≡ 0 → played_out ≡ stop_of vs
unfolding stop_of
stop_none [] e = refl
stop_none (v ∷ vs) e = absurd (omega arith)

pub stop_out : (vs : List ℕ) (n : ℕ) → 0 < length vs → n ≡ found vs 1 → n ≡ 0 → played_out ≡ stop_of vs
unfolding stop_of
stop_out [] n h e z = absurd (omega arith)
stop_out (v ∷ vs) n h e z = sym (number_zero 0 vs (sym e ∙ z))

pub stop_at : (vs : List ℕ) (n : ℕ) → 0 < length vs → n ≡ found vs 1 → (n ≡ 0 → ⊥) → before n ≡ stop_of vs
unfolding stop_of
stop_at [] n h e ne = absurd (omega arith)
stop_at (v ∷ vs) n h e ne = ap before e ∙ number_some (earliest 1 vs) (λ z. ne (e ∙ z))
