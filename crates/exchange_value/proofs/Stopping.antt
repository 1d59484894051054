-- What the captures before the stopping point take, with alternating signs, is S(0); and the point is the earliest. The idea: of the captures from any one
-- on, those that are made come to max(0, S). Assumes nothing.
use mathlib.Core.Path.{◌≡◌, refl, sym, ap, ◌∙◌}
use mathlib.Core.Bool.{Bool, true, false, true≢false, cond}
use mathlib.Core.List.{List, [], ◌∷◌, ◌++◌, append_assoc}
use Prim.Native.Nat.{ℕ, zero, suc, ◌+◌, ◌≤◌, ◌<◌}
use native.Mathlib.Omega.{arith}
use lib.IntN.{ℤ, pos, negsuc, ◌-ℤ◌}
use lib.ListN.{length, take, drop}
use Rattle.exchange_value.specs.Settled.{settled, or_zero}
use Rattle.exchange_value.specs.Stop.{played_out, before, not_above, earliest, stop_of, carried_out, alternating, S, StopsBefore, NoneStops}
use Rattle.exchange_value.proofs.Backward.{settled_cons}

costs : (z : ℤ) → not_above z ≡ true → or_zero z ≡ pos 0
costs (pos zero) e = refl
costs (pos (suc n)) e = absurd (true≢false (sym e))
costs (negsuc n) e = refl

pays : (z : ℤ) → not_above z ≡ false → or_zero z ≡ z
pays (pos zero) e = absurd (true≢false e)
pays (pos (suc n)) e = refl
pays (negsuc n) e = absurd (true≢false e)

-- ---- those that are made, where the first of them need not be
unfoldable made : List ℕ → List ℕ
made [] = []
made (v ∷ vs) = cond (not_above (settled (v ∷ vs))) [] (v ∷ made vs)

come_to : (vs : List ℕ) → alternating (made vs) ≡ or_zero (settled vs)
unfolding made alternating settled
come_to [] = refl
come_to (v ∷ vs) = go (not_above (settled (v ∷ vs))) refl (come_to vs)
  where
    go : (t : Bool) → not_above (settled (v ∷ vs)) ≡ t → alternating (made vs) ≡ or_zero (settled vs)
        → alternating (cond t [] (v ∷ made vs)) ≡ or_zero (settled (v ∷ vs))
    go true e ih = sym (costs (settled (v ∷ vs)) e)
    go false e ih = ap (λ (z : ℤ). pos v -ℤ z) ih ∙ sym (settled_cons v vs) ∙ sym (pays (settled (v ∷ vs)) e)

-- ---- they are the ones before the stopping point
append_nil : (l : List ℕ) → l ++ [] ≡ l
append_nil [] = refl
append_nil (x ∷ l) = ap (λ (t : List ℕ). x ∷ t) (append_nil l)

take_front : (us vs : List ℕ) → take (length us) (us ++ vs) ≡ us
take_front [] [] = refl
take_front [] (v ∷ vs) = refl
take_front (u ∷ us) vs = ap (λ (t : List ℕ). u ∷ t) (take_front us vs)

length_snoc : (us : List ℕ) (v : ℕ) → length (us ++ (v ∷ [])) ≡ suc (length us)
length_snoc [] v = refl
length_snoc (u ∷ us) v = ap suc (length_snoc us v)

are_made : (us vs : List ℕ) (i : ℕ) → length us ≡ i → carried_out (earliest i vs) (us ++ vs) ≡ us ++ made vs
unfolding earliest made
are_made us [] i e = refl
are_made us (v ∷ vs) i e =
    go (not_above (settled (v ∷ vs)))
    (are_made (us ++ (v ∷ [])) vs (suc i) (length_snoc us v ∙ ap suc e))
  where
    go : (t : Bool) → carried_out (earliest (suc i) vs) ((us ++ (v ∷ [])) ++ vs) ≡ (us ++ (v ∷ [])) ++ made vs
        → carried_out (cond t (before i) (earliest (suc i) vs)) (us ++ (v ∷ vs)) ≡ us ++ cond t [] (v ∷ made vs)
    go true ih = ap (λ (n : ℕ). take n (us ++ (v ∷ vs))) (sym e) ∙ take_front us (v ∷ vs) ∙ sym (append_nil us)
    go false ih = ap (carried_out (earliest (suc i) vs)) (sym (append_assoc us (v ∷ []) vs)) ∙ ih ∙ append_assoc us (v ∷ []) (made vs)

-- "the values taken by the captures before that point, or by all of them when played out, add up with alternating signs to the exchange value"
pub adds_up : (vs : List ℕ) → alternating (carried_out (stop_of vs) vs) ≡ settled vs
unfolding stop_of alternating settled
adds_up [] = refl
adds_up (v ∷ vs) = ap alternating (are_made (v ∷ []) vs 1 refl) ∙ ap (λ (z : ℤ). pos v -ℤ z) (come_to vs) ∙ sym (settled_cons v vs)

-- ---- "the earliest capture after the first whose S is not above zero"
pub record Earliest (k i : ℕ) (vs : List ℕ) : Type 0 where
  pub from_k : k ≤ i
  pub there : i < k + length vs
  pub costs_here : (j : ℕ) → i ≡ k + j → not_above (settled (drop j vs)) ≡ true
  pub pays_before : (j : ℕ) → k + j < i → not_above (settled (drop j vs)) ≡ false

out_before : {i : ℕ} → played_out ≡ before i → ⊥
out_before e = let z : ◌≡◌ {A = ℕ} 0 1 = cc in omega arith

at_earliest : (k i : ℕ) (vs : List ℕ) → earliest k vs ≡ before i → Earliest k i vs
unfolding earliest
at_earliest k i [] e = absurd (out_before e)
at_earliest k i (v ∷ vs) e = go (not_above (settled (v ∷ vs))) refl e (at_earliest (suc k) i vs)
  where
    first : (j : ℕ) → i ≡ k → i ≡ k + j → not_above (settled (v ∷ vs)) ≡ true → not_above (settled (drop j (v ∷ vs))) ≡ true
    first zero q p n = n
    first (suc j) q p n = absurd (omega arith)

    later : (j : ℕ) → Earliest (suc k) i vs → i ≡ k + j → not_above (settled (drop j (v ∷ vs))) ≡ true
    later zero w p = absurd (omega (arith, w.from_k))
    later (suc j) w p = w.costs_here j (omega arith)

    earlier : (j : ℕ) → Earliest (suc k) i vs → k + j < i → not_above (settled (v ∷ vs)) ≡ false → not_above (settled (drop j (v ∷ vs))) ≡ false
    earlier zero w p n = n
    earlier (suc j) w p n = w.pays_before j (omega arith)

    go : (t : Bool) → not_above (settled (v ∷ vs)) ≡ t → cond t (before k) (earliest (suc k) vs) ≡ before i
        → (earliest (suc k) vs ≡ before i → Earliest (suc k) i vs)
        → Earliest k i (v ∷ vs)
    go true n q ih =
        let z : i ≡ k = cc in
        record { from_k = omega arith; there = omega arith; costs_here = λ j p. first j z p n; pays_before = λ j p. absurd (omega arith) }
    go false n q ih =
        let w : Earliest (suc k) i vs = ih q in
        record { from_k = omega (arith, w.from_k); there = omega (arith, w.there); costs_here = λ j p. later j w p; pays_before = λ j p. earlier j w p n }

none_costs : (k : ℕ) (vs : List ℕ) → earliest k vs ≡ played_out → (j : ℕ) → j < length vs → not_above (settled (drop j vs)) ≡ false
unfolding earliest
none_costs k [] e j h = absurd (omega arith)
none_costs k (v ∷ vs) e j h = go (not_above (settled (v ∷ vs))) refl e (none_costs (suc k) vs) j h
  where
    go : (t : Bool) → not_above (settled (v ∷ vs)) ≡ t → cond t (before k) (earliest (suc k) vs) ≡ played_out
        → (earliest (suc k) vs ≡ played_out → (m : ℕ) → m < length vs → not_above (settled (drop m vs)) ≡ false)
        → (m : ℕ) → m < length (v ∷ vs) → not_above (settled (drop m (v ∷ vs))) ≡ false
    go true n q ih m l = absurd (out_before (sym q))
    go false n q ih zero l = n
    go false n q ih (suc m) l = ih q m (omega arith)

pub stop_means : (vs : List ℕ) (i : ℕ) → stop_of vs ≡ before i → StopsBefore i vs
unfolding stop_of
stop_means [] i e = absurd (out_before e)
stop_means (v ∷ vs) zero e = absurd (omega (arith, (at_earliest 1 zero vs e).from_k))
stop_means (v ∷ vs) (suc i) e =
    let w : Earliest 1 (suc i) vs = at_earliest 1 (suc i) vs e in
    record {
      after_the_first = omega arith;
      a_capture = omega (arith, w.there);
      not_above_holds = w.costs_here i (omega arith);
      above_before =
          λ j h l. earlier w j h l;
    }
  where
    earlier : Earliest 1 (suc i) vs → (j : ℕ) → 1 ≤ j → j < suc i → not_above (S (v ∷ vs) j) ≡ false
    earlier w zero h l = absurd (omega arith)
    earlier w (suc j) h l = w.pays_before j (omega arith)

pub out_means : (vs : List ℕ) → stop_of vs ≡ played_out → NoneStops vs
unfolding stop_of
out_means [] e j h l = absurd (omega arith)
out_means (v ∷ vs) e zero h l = absurd (omega arith)
out_means (v ∷ vs) e (suc j) h l = none_costs 1 vs e j (omega arith)
