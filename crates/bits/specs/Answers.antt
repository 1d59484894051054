-- What each function answers, by document 01 ("count, scan, shift and iteration of bitboards"). Definitions only.
use Rattle.std.specs.Prelude.{Bool, not, cond, ◌||◌, ◌&&◌, List, [], ◌∷◌, ℕ, suc, ◌+◌, ◌-◌, eqb, leb, ltb, ℤ, pos, negsuc, Option, None, Some}
use Rattle.std.specs.Bool.{beq}
use Rattle.refusal.specs.Answer.{Answer, given, or_refuse}
use Rattle.refusal.specs.declared.Refusal.TheVariants as R
use Rattle.bits.specs.Bitboard.{has, those, lowest_of}

-- SQUARE: "a square above 63"
abbrev pub on_board : {A : Type 0} → ℕ → A → Answer A
on_board s a = or_refuse (ltb s 64) R.Square (given a)

-- one square alone
abbrev pub from_square_of : ℕ → Answer ℕ
from_square_of s = on_board s (those 64 (λ k. eqb k s))

abbrev pub got_of : ℕ → ℕ → Answer Bool
got_of b s = on_board s (has b s)

abbrev pub set_of : ℕ → ℕ → Answer ℕ
set_of b s = on_board s (those 64 (λ k. has b k || eqb k s))

abbrev pub reset_of : ℕ → ℕ → Answer ℕ
reset_of b s = on_board s (those 64 (λ k. has b k && not (eqb k s)))

abbrev pub toggled_of : ℕ → ℕ → Answer ℕ
toggled_of b s = on_board s (those 64 (λ k. not (beq (has b k) (eqb k s))))

-- n squares up, and n down: what leaves the board is lost
abbrev pub up_by : ℕ → ℕ → ℕ
up_by b n = those 64 (λ k. leb n k && has b (k - n))

abbrev pub down_by : ℕ → ℕ → ℕ
down_by b n = those 64 (λ k. has b (n + k))

-- SHAPE: "shift beyond ±63"
abbrev pub shifted_of : ℕ → ℤ → Answer ℕ
shifted_of b (pos n) = or_refuse (ltb n 64) R.Shape (given (up_by b n))
shifted_of b (negsuc n) = or_refuse (ltb (suc n) 64) R.Shape (given (down_by b (suc n)))

-- a bitboard without its lowest square
abbrev pub rest_of : ℕ → ℕ
rest_of b = those 64 (λ k. has b k && not (eqb k (lowest_of b)))

-- the lowest square and the rest; nothing of the empty bitboard
abbrev pub next_of : ℕ → List ℕ
next_of b = cond (eqb b 0) [] (lowest_of b ∷ rest_of b ∷ [])

-- ---- the code's answers on the paper
abbrev pub lowest : Option (ℕ × ℕ) → List ℕ
lowest (Some (s, b)) = s ∷ b ∷ []
lowest None = []
