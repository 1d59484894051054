-- A digit of 1 to 8 is a run of its squares, and a letter is a piece: what is written is read back, byte by byte. Assumes nothing.
use mathlib.Core.Path.{◌≡◌, refl, sym, ap, ◌∙◌}
use mathlib.Core.Bool.{Bool, true, false, not, ◌||◌, ◌&&◌}
use mathlib.Core.List.{List, [], ◌∷◌, ◌++◌, append_assoc}
use Prim.Native.Nat.{ℕ, ◌+◌, ◌≤◌}
use native.Mathlib.Omega.{arith}
use lib.Dec.{T, eqb, eqb→eq}
use borrow.Author.Tests.{le-leb}
use Rattle.laws.specs.Tests.{all_below}
use Rattle.laws.proofs.Tests.{all_at}
use Rattle.laws.proofs.Truth.{T_true, and_l, and_r}
use Rattle.chess.specs.Codes.{is_piece}
use Rattle.position_boards.proofs.Apart.{code_to}
use Rattle.line_ranks.specs.Ranks.{piece_of, run_of, spelled, squares_of}
use Rattle.line_text.specs.Spelt.{letter_of}

pub run_of_digit : (n : ℕ) → 1 ≤ n → n ≤ 8 → run_of (48 + n) ≡ n
unfolding run_of
run_of_digit n l m = rw (le-leb 49 (48 + n) (omega arith), le-leb (48 + n) 56 (omega arith)) (omega arith)

abbrev there_and_back : ℕ → Bool
there_and_back c = not (is_piece c) || (eqb (piece_of (letter_of c)) c && eqb (run_of (letter_of c)) 0)

all_back : T (all_below 14 there_and_back)
unfolding all_below piece_of run_of letter_of
all_back = tt

module _ (c : ℕ) (p : T (is_piece c)) where
  back : T (eqb (piece_of (letter_of c)) c && eqb (run_of (letter_of c)) 0)
  back = go (is_piece c) (T_true (is_piece c) p) (all_at 14 there_and_back all_back c (omega (arith, code_to c p)))
    where
      go : (t : Bool) → t ≡ true → T (not t || (eqb (piece_of (letter_of c)) c && eqb (run_of (letter_of c)) 0))
          → T (eqb (piece_of (letter_of c)) c && eqb (run_of (letter_of c)) 0)
      go true e h = h
      go false e h = absurd (let z : ◌≡◌ {A = ℕ} 0 1 = cc in omega arith)

  pub piece_of_letter : piece_of (letter_of c) ≡ c
  piece_of_letter = eqb→eq (piece_of (letter_of c)) c (and_l (eqb (piece_of (letter_of c)) c) (eqb (run_of (letter_of c)) 0) back)

  pub letter_no_digit : run_of (letter_of c) ≡ 0
  letter_no_digit = eqb→eq (run_of (letter_of c)) 0 (and_r (eqb (piece_of (letter_of c)) c) (eqb (run_of (letter_of c)) 0) back)

-- the squares of two texts
pub squares_join : (s t : List ℕ) → squares_of (s ++ t) ≡ squares_of s ++ squares_of t
unfolding squares_of
squares_join [] t = refl
squares_join (b ∷ s) t = ap (λ (l : List ℕ). spelled b ++ l) (squares_join s t) ∙ sym (append_assoc (spelled b) (squares_of s) (squares_of t))
