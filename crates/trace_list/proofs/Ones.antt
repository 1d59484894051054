-- A fold over the numbers below n that passes over those at which a test fails is the fold over the others: `passed_over`. Assumes nothing.
use mathlib.Core.Path.{◌≡◌, refl, sym, ap, ap₂, ◌∙◌}
use mathlib.Core.Bool.{Bool, true, false, cond, ◌||◌, ◌&&◌, or-false, or-true, and-false}
use mathlib.Core.List.{List, [], ◌∷◌, ◌++◌}
use Prim.Native.Nat.{ℕ, zero, suc, ◌+◌, ◌<◌}
use native.Mathlib.Omega.{arith}
use borrow.Author.Tests.{eqb-true, eqb-false, lt-ltb, le-ltb}
use lib.Dec.{eqb, ltb, ltb→lt}
use Rattle.laws.proofs.Truth.{iff, true_T}
use Rattle.bits.proofs.Lists.{in_append}
use lib.ListN.{length, length-append}
use Rattle.bits.specs.Bitboard.{is_in, digit, how_many}
use Rattle.trace_list.specs.Ones.{ones, over}

pub in_none : (k : ℕ) → is_in k [] ≡ false
unfolding is_in
in_none k = refl

is_below : {k n : ℕ} → k ≡ n → k < suc n
is_below e = omega arith

pub ltb_more : (k n : ℕ) → (k ≡ n → ⊥) → ltb k (suc n) ≡ ltb k n
ltb_more k n ne = iff (ltb k (suc n)) (ltb k n) (λ t. true_T (lt-ltb k n (less (ltb→lt k (suc n) t) ne))) (λ t. true_T (lt-ltb k (suc n) (up (ltb→lt k n t))))
  where
    less : {k n : ℕ} → k < suc n → (k ≡ n → ⊥) → k < n
    less h d = omega arith

    up : {k n : ℕ} → k < n → k < suc n
    up h = omega arith

many_none : (f : ℕ → Bool) → how_many 0 f ≡ 0
unfolding how_many
many_none f = refl

many_more : (f : ℕ → Bool) (n : ℕ) → digit (f n) ≡ 1 → how_many n f + 1 ≡ how_many (suc n) f
unfolding how_many
many_more f n e = omega arith

many_less : (f : ℕ → Bool) (n : ℕ) → digit (f n) ≡ 0 → how_many n f ≡ how_many (suc n) f
unfolding how_many
many_less f n e = rw e (omega arith)

-- ---- a fold, one number more at the end
pub over_last : {S : Type 0} (f : S → ℕ → S) (s : S) (ks : List ℕ) (k : ℕ) → over f s (ks ++ (k ∷ [])) ≡ f (over f s ks) k
unfolding over
over_last f s [] k = refl
over_last f s (j ∷ ks) k = over_last f (f s j) ks k

-- ---- the ones, one number on
pub ones_yes : (f : ℕ → Bool) (n : ℕ) → f n ≡ true → ones f (suc n) ≡ ones f n ++ (n ∷ [])
unfolding ones
ones_yes f n e = rw e

pub ones_no : (f : ℕ → Bool) (n : ℕ) → f n ≡ false → ones f (suc n) ≡ ones f n
unfolding ones
ones_no f n e = rw e

pub ones_same : (f g : ℕ → Bool) (n : ℕ) → ((k : ℕ) → k < n → f k ≡ g k) → ones f n ≡ ones g n
unfolding ones
ones_same f g zero h = refl
ones_same f g (suc n) h = rw (h n (omega arith), ones_same f g n (λ k l. h k (omega arith)))

pub ones_zero : (f : ℕ → Bool) → ones f zero ≡ []
unfolding ones
ones_zero f = refl

pub ones_none : (f : ℕ → Bool) (n : ℕ) → ((k : ℕ) → k < n → f k ≡ false) → ones f n ≡ []
ones_none f zero h = ones_zero f
ones_none f (suc n) h = ones_no f n (h n (omega arith)) ∙ ones_none f n (λ k l. h k (omega arith))

pub none : {S : Type 0} (step : S → ℕ → S) (f : ℕ → Bool) (s : S) → over step s (ones f 0) ≡ s
unfolding over ones
none step f s = refl

-- ---- a fold that goes by `here`, with nothing done where the test fails, is the fold over the ones
pub passed_over : {S : Type 0} (step : S → ℕ → S) (f : ℕ → Bool) (fold : ℕ → S) → (n : ℕ)
    → ((k : ℕ) → k < n → fold (suc k) ≡ cond (f k) (step (fold k) k) (fold k)) → fold n ≡ over step (fold 0) (ones f n)
passed_over step f fold zero h = sym (none step f (fold 0))
passed_over step f fold (suc n) h = h n (omega arith) ∙ go (passed_over step f fold n (λ k l. h k (omega arith))) (f n) refl
  where
    go : fold n ≡ over step (fold 0) (ones f n) → (t : Bool) → f n ≡ t → cond t (step (fold n) n) (fold n) ≡ over step (fold 0) (ones f (suc n))
    go before true e =
        ap (λ s. step s n) before
        ∙ sym (over_last step (fold 0) (ones f n) n) ∙ ap (over step (fold 0)) (sym (ones_yes f n e))
    go before false e = before ∙ ap (over step (fold 0)) (sym (ones_no f n e))

-- ---- the ones are where the test holds
pub in_last : (k : ℕ) (ks : List ℕ) (j : ℕ) → is_in k (ks ++ (j ∷ [])) ≡ (is_in k ks || eqb k j)
unfolding is_in
in_last k ks j = in_append k ks (j ∷ []) ∙ ap (λ (t : Bool). is_in k ks || t) (or-false (eqb k j))

pub in_ones : (f : ℕ → Bool) (n k : ℕ) → is_in k (ones f n) ≡ (f k && ltb k n)
in_ones f zero k = ap (is_in k) (ones_zero f) ∙ in_none k ∙ sym (ap (λ (t : Bool). f k && t) (le-ltb k 0 (omega arith)) ∙ and-false (f k))
in_ones f (suc n) k = go (in_ones f n k) (f n) refl (eqb k n) refl
  where
    go : is_in k (ones f n) ≡ (f k && ltb k n) → (t : Bool) → f n ≡ t → (u : Bool) → eqb k n ≡ u → is_in k (ones f (suc n)) ≡ (f k && ltb k (suc n))
    go q true e true i =
        ap (is_in k) (ones_yes f n e) ∙ in_last k (ones f n) n ∙ ap (λ (t : Bool). is_in k (ones f n) || t) i ∙ or-true (is_in k (ones f n))
        ∙ sym (ap₂ (λ (a b : Bool). a && b) (ap f (eqb-true k n i) ∙ e) (lt-ltb k (suc n) (is_below (eqb-true k n i))))
    go q true e false i =
        ap (is_in k) (ones_yes f n e) ∙ in_last k (ones f n) n ∙ ap (λ (t : Bool). is_in k (ones f n) || t) i ∙ or-false (is_in k (ones f n))
        ∙ q ∙ ap (λ (t : Bool). f k && t) (sym (ltb_more k n (eqb-false k n i)))
    go q false e true i =
        ap (is_in k) (ones_no f n e) ∙ q ∙ ap₂ (λ (a b : Bool). a && b) (ap f (eqb-true k n i) ∙ e) refl
        ∙ sym (ap₂ (λ (a b : Bool). a && b) (ap f (eqb-true k n i) ∙ e) refl)
    go q false e false i = ap (is_in k) (ones_no f n e) ∙ q ∙ ap (λ (t : Bool). f k && t) (sym (ltb_more k n (eqb-false k n i)))

-- ---- how many there are
pub ones_count : (f : ℕ → Bool) (n : ℕ) → length (ones f n) ≡ how_many n f
ones_count f zero = ap length (ones_zero f) ∙ sym (many_none f)
ones_count f (suc n) = go (ones_count f n) (f n) refl
  where
    go : length (ones f n) ≡ how_many n f → (t : Bool) → f n ≡ t → length (ones f (suc n)) ≡ how_many (suc n) f
    go q true e = ap length (ones_yes f n e) ∙ length-append (ones f n) (n ∷ []) ∙ ap (λ (m : ℕ). m + 1) q ∙ many_more f n (ap digit e)
    go q false e = ap length (ones_no f n e) ∙ q ∙ many_less f n (ap digit e)
