-- A bitboard's squares as a list: below 64, and a square is one of them where it stands in the bitboard. Assumes nothing.
use mathlib.Core.Path.{◌≡◌, refl, sym, ap, ap₂, ◌∙◌, subst}
use mathlib.Core.Logic.{⊎_elim}
use mathlib.Core.Bool.{Bool, true, false, cond, ◌||◌, ◌&&◌}
use mathlib.Core.List.{List, [], ◌∷◌}
use Prim.Native.Nat.{ℕ, zero, suc, ◌+◌, ◌<◌, ◌≤◌}
use native.Mathlib.Nat.{add-zero, suc-add, add-suc, eq-or-lt_of_le}
use native.Mathlib.Omega.{arith}
use borrow.Author.Tests.{eq-eqb, ne_eqb, lt-ltb}
use lib.Dec.{T, ltb}
use Rattle.laws.proofs.Truth.{and_i}
use Rattle.bits.specs.Bitboard.{has, is_in, squares, squares_from}

-- every square of a list is on the board
abbrev pub inside : List ℕ → Bool
inside [] = true
inside (q ∷ qs) = ltb q 64 && inside qs

inside_from : (n k b : ℕ) → k + n ≤ 64 → T (inside (squares_from n k b))
unfolding squares_from
inside_from zero k b h = tt
inside_from (suc n) k b h = go (has b k) (inside_from n (suc k) b (omega (arith, add-suc k n, suc-add k n)))
  where
    go : (t : Bool) → T (inside (squares_from n (suc k) b)) → T (inside (cond t (k ∷ squares_from n (suc k) b) (squares_from n (suc k) b)))
    go true r = and_i (ltb k 64) (inside (squares_from n (suc k) b)) (subst T (sym (lt-ltb k 64 (omega (arith, add-suc k n)))) tt) r
    go false r = r

pub inside_squares : (b : ℕ) → T (inside (squares b))
unfolding squares
inside_squares b = inside_from 64 0 b (omega arith)

not_before : (n k b t : ℕ) → t < k → is_in t (squares_from n k b) ≡ false
unfolding squares_from is_in
not_before zero k b t h = refl
not_before (suc n) k b t h = go (has b k) (not_before n (suc k) b t (omega arith))
  where
    go : (u : Bool) → is_in t (squares_from n (suc k) b) ≡ false → is_in t (cond u (k ∷ squares_from n (suc k) b) (squares_from n (suc k) b)) ≡ false
    go true r = ap₂ ◌||◌ (ne_eqb t k (λ e. omega arith)) r
    go false r = r

in_from : (n k b t : ℕ) → k ≤ t → t < k + n → is_in t (squares_from n k b) ≡ has b t
unfolding squares_from is_in
in_from zero k b t l h = absurd (omega (arith, add-zero k))
in_from (suc n) k b t l h =
    ⊎_elim (λ e. here (sym e) (has b k) refl)
    (λ m. later m (has b k) (in_from n (suc k) b t m (omega (arith, add-suc k n, suc-add k n)))) (eq-or-lt_of_le l)
  where
    here : t ≡ k → (u : Bool) → has b k ≡ u → is_in t (cond u (k ∷ squares_from n (suc k) b) (squares_from n (suc k) b)) ≡ has b t
    here e true r = ap (λ (x : Bool). x || is_in t (squares_from n (suc k) b)) (eq-eqb t k e) ∙ sym (ap (has b) e ∙ r)
    here e false r = not_before n (suc k) b t (omega arith) ∙ sym (ap (has b) e ∙ r)

    later : k < t → (u : Bool) → is_in t (squares_from n (suc k) b) ≡ has b t → is_in t (cond u (k ∷ squares_from n (suc k) b) (squares_from n (suc k) b)) ≡ has b t
    later m true r = ap (λ (x : Bool). x || is_in t (squares_from n (suc k) b)) (ne_eqb t k (λ e. omega arith)) ∙ r
    later m false r = r

pub in_squares : (b t : ℕ) → t < 64 → is_in t (squares b) ≡ has b t
unfolding squares
in_squares b t h = in_from 64 0 b t (omega arith) (omega arith)
