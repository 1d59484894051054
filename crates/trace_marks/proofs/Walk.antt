-- A fold over numbers in a row that looks only at those whose digit in a mask is 1, where the others change nothing. Assumes nothing.
use mathlib.Core.Path.{◌≡◌, refl, sym, ap, subst, ◌∙◌}
use mathlib.Core.Bool.{Bool, true, false, cond}
use mathlib.Core.List.{List, [], ◌∷◌}
use Prim.Native.Nat.{ℕ, zero, suc, ◌+◌, ◌^◌, ◌≤◌, ◌<◌}
use native.Mathlib.Omega.{arith}
use native.Mathlib.Decide.{ℕ_discrete}
use Rattle.bits.specs.Bitboard.{has, squares_from, squares}
use Rattle.trace_marks.specs.Marks.{marks}
use Rattle.trace_marks.proofs.Marks.{marks_lt, marks_none, marks_high, no_digit}

-- ---- a walk over the digits of a mask: from one to the next nothing changes, and after the last nothing does up to n
module _ {A : Type 0} (F : ℕ → A) where
  unfoldable pub Skips : ℕ → ℕ → List ℕ → Type 0
  Skips at n [] = F at ≡ F n
  Skips at n (s ∷ ss) = (F at ≡ F s) × (s < n) × Skips (suc s) n ss

  skips_before : (a b n : ℕ) (ss : List ℕ) → F a ≡ F b → Skips b n ss → Skips a n ss
  unfolding Skips
  skips_before a b n [] e h = e ∙ h
  skips_before a b n (s ∷ ss) e h = (e ∙ h.0, h.1, h.2)

  none_from : (m k b : ℕ) → m + k ≡ 64 → ((i : ℕ) → k ≤ i → i < 64 → has b i ≡ false) → squares_from m k b ≡ []
  unfolding squares_from
  none_from zero k b e h = refl
  none_from (suc m) k b e h =
      ap (λ (t : Bool). cond t (k ∷ squares_from m (suc k) b) (squares_from m (suc k) b)) (h k (omega arith) (omega arith))
      ∙ none_from m (suc k) b (omega arith) (λ i l j. h i (omega arith) j)

  module _ (b n : ℕ) (high : (i : ℕ) → n ≤ i → i < 64 → has b i ≡ false) (still : (i : ℕ) → i < n → has b i ≡ false → F i ≡ F (suc i)) where
    skips_from : (m k : ℕ) → m + k ≡ 64 → k ≤ n → n ≤ 64 → Skips k n (squares_from m k b)
    unfolding Skips squares_from
    skips_from zero k e l h = ap F (let q : k ≡ n = omega arith in q)
    skips_from (suc m) k e l h =
        elim (ℕ_discrete k n) [
          | yes q ↦ subst (Skips k n) (sym (none_from (suc m) k b e (λ i p j. high i (omega arith) j))) (ap F q)
          | no q ↦ go (has b k) refl (omega arith) (skips_from m (suc k) (omega arith) (omega arith) h)
        ]
      where
        go : (t : Bool) → has b k ≡ t → k < n → Skips (suc k) n (squares_from m (suc k) b)
            → Skips k n (cond t (k ∷ squares_from m (suc k) b) (squares_from m (suc k) b))
        go true p lt r = (refl, lt, r)
        go false p lt r = skips_before k (suc k) n (squares_from m (suc k) b) (still k lt p) r

    pub skips : n ≤ 64 → Skips 0 n (squares b)
    unfolding squares
    skips h = skips_from 64 0 refl (omega arith) h

  -- where the loop stands: what is passed, and what is left
  pub record Walk (n : ℕ) (score : A) (rest : ℕ) : Type 0 where
    pub at : ℕ
    pub now : score ≡ F at
    pub left : Skips at n (squares rest)
    pub fits : rest < 2 ^ 64

  -- at the first digit of a mask of n numbers below 2, where a number that is 0 changes nothing
  pub begun : (n : ℕ) (start : A) (f : ℕ → ℕ) (mask : ℕ) → mask ≡ marks f n → start ≡ F 0 → n ≤ 64 → ((j : ℕ) → j < n → f j < 2)
      → ((j : ℕ) → j < n → f j ≡ 0 → F j ≡ F (suc j)) → Walk n start mask
  begun n start f mask e s h small still =
      record {
        at = 0;
        now = s;
        left =
            skips mask n (λ i l k. ap (λ (b : ℕ). has b i) e ∙ marks_high f n i small l k)
            (λ i l z. still i l (no_digit (f i) (small i l) (marks_none f n i h l (sym (ap (λ (b : ℕ). has b i) e) ∙ z)))) h;
        fits = omega (arith, e, marks_lt f n);
      }

  pub walk_end : (n : ℕ) (score : A) (rest : ℕ) → Walk n score rest → squares rest ≡ [] → score ≡ F n
  unfolding Skips
  walk_end n score rest w e = w.now ∙ subst (Skips w.at n) e w.left

  module _ (n : ℕ) (score : A) (rest s r : ℕ) (w : Walk n score rest) (e : squares rest ≡ s ∷ squares r) where
    there : Skips w.at n (s ∷ squares r)
    there = subst (Skips w.at n) e w.left

    pub walk_at : score ≡ F s
    unfolding Skips
    walk_at = w.now ∙ there.0

    pub walk_below : s < n
    unfolding Skips
    walk_below = there.1

    pub walk_on : (more : A) → r < 2 ^ 64 → more ≡ F (suc s) → Walk n more r
    unfolding Skips
    walk_on more f q = record { at = suc s; now = q; left = there.2; fits = f }
