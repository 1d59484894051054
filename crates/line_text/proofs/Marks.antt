-- A byte is the letter of its piece or the digit of its run; the squares and the text of a board, one by one. Assumes nothing.
use mathlib.Core.Path.{◌≡◌, refl, sym, ◌∙◌}
use mathlib.Core.Bool.{Bool, true, false, cond, ◌&&◌}
use mathlib.Core.List.{List, [], ◌∷◌, ◌++◌}
use Prim.Native.Nat.{ℕ, zero, suc, ◌+◌, ◌-◌}
use native.Mathlib.Omega.{arith}
use lib.Dec.{eqb, leb}
use lib.ListN.{replicate}
use borrow.Author.Tests.{eqb-true, eq-eqb, ne_eqb, leb-true}
use Rattle.line_ranks.specs.Ranks.{piece_of, run_of, squares_of}
use Rattle.line_text.specs.Spelt.{letter_of, run_digit, spelt}

-- ---- a byte is the letter of its piece, or the digit of its run
module _ (b : ℕ) where
  either : (k x y : ℕ) → letter_of x ≡ k → ((y ≡ 0 → ⊥) → letter_of y ≡ b) → (cond (eqb b k) x y ≡ 0 → ⊥) → letter_of (cond (eqb b k) x y) ≡ b
  either k x y p q = go (eqb b k) refl
    where
      go : (t : Bool) → eqb b k ≡ t → (cond t x y ≡ 0 → ⊥) → letter_of (cond t x y) ≡ b
      go true e n = p ∙ sym (eqb-true b k e)
      go false e n = q n

  pub letter_of_piece : (piece_of b ≡ 0 → ⊥) → letter_of (piece_of b) ≡ b
  unfolding piece_of letter_of
  letter_of_piece =
      either 80 2 _ refl (either 112 3 _ refl (either 78 4 _ refl (either 110 5 _ refl (either 66 8 _ refl (either 98 9 _ refl
      (either 82 10 _ refl (either 114 11 _ refl (either 81 12 _ refl (either 113 13 _ refl (either 75 6 _ refl (either 107 7 0 refl
      (λ n. absurd (n refl)))))))))))))

  pub digit_of_run : (run_of b ≡ 0 → ⊥) → 48 + run_of b ≡ b
  unfolding run_of
  digit_of_run = go (leb 49 b) (leb b 56) refl
    where
      go : (s t : Bool) → leb 49 b ≡ s → (cond (s && t) (b - 48) 0 ≡ 0 → ⊥) → 48 + cond (s && t) (b - 48) 0 ≡ b
      go true true e n = omega (arith, leb-true 49 b e)
      go true false e n = absurd (n refl)
      go false t e n = absurd (n refl)

-- ---- the squares of a text
module _ (b : ℕ) (s : List ℕ) where
  pub squares_letter : run_of b ≡ 0 → squares_of (b ∷ s) ≡ piece_of b ∷ squares_of s
  unfolding squares_of
  squares_letter e = rw (eq-eqb (run_of b) 0 e)

  pub squares_digit : (run_of b ≡ 0 → ⊥) → squares_of (b ∷ s) ≡ replicate (run_of b) 0 ++ squares_of s
  unfolding squares_of
  squares_digit n = rw (ne_eqb (run_of b) 0 n)

-- ---- the text of squares
pub spelt_letter : (n c : ℕ) (squares : List ℕ) → (c ≡ 0 → ⊥) → spelt n (c ∷ squares) ≡ run_digit n ++ (letter_of c ∷ spelt 0 squares)
unfolding spelt
spelt_letter n zero squares z = absurd (z refl)
spelt_letter n (suc c) squares z = refl

pub digit_is : (n : ℕ) → (n ≡ 0 → ⊥) → run_digit n ≡ (48 + n) ∷ []
digit_is zero z = absurd (z refl)
digit_is (suc n) z = refl
