-- A rising table of numbers below n: the numbers that stand in it, in order, are the table itself (`listed_again`). Assumes nothing.
use mathlib.Core.Path.{◌≡◌, refl, sym, ap, ap₂, ◌∙◌}
use mathlib.Core.Bool.{Bool, true, false, ◌||◌, or-true, or-false}
use mathlib.Core.List.{List, [], ◌∷◌, ◌++◌}
use mathlib.Core.Logic.{⊎_elim}
use Prim.Native.Nat.{ℕ, zero, suc, ◌<◌, ◌≤◌}
use native.Mathlib.Nat.{not-suc-le-zero, le-suc_iff, suc_inj}
use native.Mathlib.Omega.{arith}
use borrow.Author.Tests.{eqb-true, eqb-false, eq-eqb, ne_eqb}
use lib.Dec.{eqb}
use Rattle.laws.specs.Tables.{tabulate}
use Rattle.bits.specs.Bitboard.{is_in}
use Rattle.trace_list.specs.Ones.{ones}
use Rattle.trace_list.proofs.Ones.{ones_yes, ones_no, ones_same, ones_none, in_last}

-- ---- a table, one entry more at the end
pub table_none : {X : Type 0} (p : ℕ → X) → tabulate 0 p ≡ []
unfolding tabulate
table_none p = refl

pub table_last : {X : Type 0} (n : ℕ) (p : ℕ → X) → tabulate (suc n) p ≡ tabulate n p ++ (p n ∷ [])
unfolding tabulate
table_last zero p = refl
table_last (suc n) p = ap (λ l. p 0 ∷ l) (table_last n (λ k. p (suc k)))

-- ---- what stands in it
pub in_table : (k n : ℕ) (p : ℕ → ℕ) → is_in k (tabulate (suc n) p) ≡ (is_in k (tabulate n p) || eqb k (p n))
in_table k n p = ap (is_in k) (table_last n p) ∙ in_last k (tabulate n p) (p n)

pub not_in : (k n : ℕ) (p : ℕ → ℕ) → ((i : ℕ) → i < n → k ≡ p i → ⊥) → is_in k (tabulate n p) ≡ false
unfolding is_in tabulate
not_in k zero p h = refl
not_in k (suc n) p h = in_table k n p ∙ ap₂ (λ (a b : Bool). a || b) (not_in k n p (λ i l. h i (omega arith))) (ne_eqb k (p n) (h n (omega arith)))

pub is_in_holds : (n : ℕ) (p : ℕ → ℕ) → is_in (p n) (tabulate (suc n) p) ≡ true
is_in_holds n p = in_table (p n) n p ∙ ap (λ (t : Bool). is_in (p n) (tabulate n p) || t) (eq-eqb (p n) (p n) refl) ∙ or-true (is_in (p n) (tabulate n p))

pub in_less : (k n : ℕ) (p : ℕ → ℕ) → (k ≡ p n → ⊥) → is_in k (tabulate (suc n) p) ≡ is_in k (tabulate n p)
in_less k n p h = in_table k n p ∙ ap (λ (t : Bool). is_in k (tabulate n p) || t) (ne_eqb k (p n) h) ∙ or-false (is_in k (tabulate n p))

-- ---- a rising one
pub record Rises (p : ℕ → ℕ) (m n : ℕ) : Type 0 where
  pub up : (i : ℕ) → suc i < m → p i < p (suc i)
  pub below : (i : ℕ) → i < m → p i < n

-- each entry is below all later ones
pub rises : (p : ℕ → ℕ) (m : ℕ) → ((i : ℕ) → suc i < m → p i < p (suc i)) → (i j : ℕ) → i < j → j < m → p i < p j
rises p m h i zero l b = absurd (not-suc-le-zero l)
rises p m h i (suc j) l b =
    let step : p j < p (suc j) = h j b in
    ⊎_elim (λ (q : suc i ≤ j). let far : p i < p j = rises p m h i j q (omega arith) in omega arith)
    (λ (q : suc i ≡ suc j). let same : p i ≡ p j = ap p (suc_inj q) in omega arith) (le-suc_iff.0 l)

pub listed_again : (p : ℕ → ℕ) (m n : ℕ) → Rises p m n → ones (λ k. is_in k (tabulate m p)) n ≡ tabulate m p
listed_again p zero n r = ones_none (λ k. is_in k (tabulate 0 p)) n (λ k l. not_in k 0 p (λ i z. absurd (not-suc-le-zero z))) ∙ sym (table_none p)
listed_again p (suc m) zero r = absurd (not-suc-le-zero (r.below 0 (omega arith)))
listed_again p (suc m) (suc n) r =
    go (λ (q : p m ≡ n).
    listed_again p m n (record {
      up = λ i l. r.up i (omega arith);
      below = λ i l. let far : p i < p m = rises p (suc m) r.up i m l (omega arith) in
          omega arith;
    }))
    (λ (q : p m < n).
    listed_again p (suc m) n (record {
      up = r.up;
      below = λ i l. ⊎_elim (λ (z : suc i ≤ m). let far : p i < p m = rises p (suc m) r.up i m z (omega arith) in omega arith)
          (λ (z : suc i ≡ suc m). let same : p i ≡ p m = ap p (suc_inj z) in omega arith) (le-suc_iff.0 l);
    }))
    (eqb n (p m)) refl
  where
    full : ℕ → Bool
    full k = is_in k (tabulate (suc m) p)

    less : ℕ → Bool
    less k = is_in k (tabulate m p)

    go : (p m ≡ n → ones (λ k. is_in k (tabulate m p)) n ≡ tabulate m p) → (p m < n → ones (λ k. is_in k (tabulate (suc m) p)) n ≡ tabulate (suc m) p)
        → (t : Bool) → eqb n (p m) ≡ t → ones (λ k. is_in k (tabulate (suc m) p)) (suc n) ≡ tabulate (suc m) p
    go a b true e =
        let q : n ≡ p m = eqb-true n (p m) e in
        ones_yes full n (ap (λ (k : ℕ). is_in k (tabulate (suc m) p)) q ∙ is_in_holds m p)
        ∙ ap₂ (λ (l : List ℕ) (k : ℕ). l ++ (k ∷ [])) (ones_same full less n (λ k l. in_less k m p (λ z. omega arith)) ∙ a (sym q)) q
        ∙ sym (table_last m p)
    go a b false e =
        let ne : n ≡ p m → ⊥ = eqb-false n (p m) e in
        let top : p m < suc n = r.below m (omega arith) in
        let small : p m < n = omega arith in
        ones_no full n (not_in n (suc m) p (λ i l z. ⊎_elim (λ (w : suc i ≤ m). let far : p i < p m = rises p (suc m) r.up i m w (omega arith) in
        omega arith)
        (λ (w : suc i ≡ suc m). let same : p i ≡ p m = ap p (suc_inj w) in omega arith) (le-suc_iff.0 l)))
        ∙ b small
