-- A table's entry is its rule's value. A proof cites `entry` under `unfolding tabulate`, and antt compares the constant of the source
-- with the list that the rule builds, entry by entry: no file repeats the numbers. Assumes nothing.
use mathlib.Core.Path.{◌≡◌, refl, sym, ap, ◌∙◌}
use mathlib.Core.Bool.{Bool, true, false}
use mathlib.Core.List.{List}
use Prim.Native.Nat.{ℕ, zero, suc, ◌+◌, ◌<◌}
use native.Mathlib.Nat.{not-suc-le-zero}
use native.Mathlib.Omega.{arith}
use borrow.Author.Tests.{eqb-true, eqb-false}
use lib.Dec.{eqb}
use lib.ListN.{get_or, length, set}
use lib.Seq.{get_or-set_same, get_or-set_other}
use Rattle.laws.specs.Tables.{tabulate}

pub entry : {X : Type 0} (n : ℕ) (f : ℕ → X) (d : X) (k : ℕ) → k < n → get_or (tabulate n f) k d ≡ f k
unfolding tabulate
entry zero f d k h = absurd (not-suc-le-zero h)
entry (suc n) f d zero h = refl
entry (suc n) f d (suc k) h = entry n (λ k. f (suc k)) d k (omega arith)

pub tabulate_length : {X : Type 0} (n : ℕ) (f : ℕ → X) → length (tabulate n f) ≡ n
unfolding tabulate
tabulate_length zero f = refl
tabulate_length (suc n) f = ap suc (tabulate_length n (λ k. f (suc k)))

pub tabulate_same : {X : Type 0} (n : ℕ) (f g : ℕ → X) → ((k : ℕ) → k < n → f k ≡ g k) → tabulate n f ≡ tabulate n g
unfolding tabulate
tabulate_same zero f g e = refl
tabulate_same (suc n) f g e = cc (e 0 (omega arith), tabulate_same n (λ k. f (suc k)) (λ k. g (suc k)) (λ k h. e (suc k) (omega arith)))

-- one entry changed: the table of a function that differs there alone
pub tabulate_set : {X : Type 0} (n : ℕ) (f g : ℕ → X) (i : ℕ) (v : X) → i < n → v ≡ g i → ((k : ℕ) → k < n → (k ≡ i → ⊥) → f k ≡ g k)
    → set (tabulate n f) i v ≡ tabulate n g
unfolding tabulate
tabulate_set zero f g i v h e o = absurd (not-suc-le-zero h)
tabulate_set (suc n) f g zero v h e o = cc (tabulate_same n (λ k. f (suc k)) (λ k. g (suc k)) (λ k l. o (suc k) (omega arith) (λ q. omega arith)))
tabulate_set (suc n) f g (suc i) v h e o =
    cc (
      o 0 (omega arith) (λ q. omega arith),
      tabulate_set n (λ k. f (suc k)) (λ k. g (suc k)) i v (omega arith) e
          (λ k l d. o (suc k) (omega arith) (λ q. d (omega arith))),
    )

-- a list that is written place by place: one value more
pub set_more : {X : Type 0} (d : X) (f : ℕ → X) (l : List X) (i : ℕ) (v : X) → i < length l → v ≡ f i → ((j : ℕ) → j < i → get_or l j d ≡ f j)
    → (j : ℕ) → j < i + 1 → get_or (set l i v) j d ≡ f j
set_more d f l i v h e z j k = go (eqb j i) refl
  where
    go : (t : Bool) → eqb j i ≡ t → get_or (set l i v) j d ≡ f j
    go true q = ap (λ (x : ℕ). get_or (set l i v) x d) (eqb-true j i q) ∙ get_or-set_same l i v d h ∙ e ∙ ap f (sym (eqb-true j i q))
    go false q =
        let ne : j ≡ i → ⊥ = eqb-false j i q in
        get_or-set_other l i j v d ne ∙ z j (omega arith)
