-- Worked examples of the definitions, by computation. Assumes nothing.
use mathlib.Core.Path.{◌≡◌, refl}
use mathlib.Core.List.{List, [], ◌∷◌}
use Prim.Native.Nat.{ℕ, ◌-◌, ◌^◌}
use lib.IntN.{pos, negsuc}
use Rattle.refusal.specs.Answer.{Answer, given, refused}
use Rattle.bits.specs.Bitboard.{has, those, how_many, lowest_of, squares, board}
use Rattle.bits.specs.Answers.{shifted_of, set_of, next_of}

-- the empty and the full bitboard: how many, and the lowest
counted : how_many 64 (has 0) ∷ how_many 64 (has (2 ^ 64 - 1)) ∷ lowest_of 0 ∷ lowest_of (2 ^ 64 - 1) ∷ [] ≡ 0 ∷ 64 ∷ 64 ∷ 0 ∷ []
unfolding how_many has lowest_of
counted = refl

-- "Shift zero changes nothing"; a1 up to h8 and back; h8 and a1 one too far
shifts : List (Answer ℕ)
unfolding those has
shifts =
    shifted_of 0x8001 (pos 0) ∷ shifted_of 1 (pos 63) ∷ shifted_of (2 ^ 63) (negsuc 62) ∷ shifted_of 1 (pos 64) ∷ shifted_of 1 (negsuc 63)
    ∷ shifted_of 3 (pos 63) ∷ []

shifts_are : shifts ≡ given 0x8001 ∷ given (2 ^ 63) ∷ given 1 ∷ refused 1 [] ∷ refused 1 [] ∷ given (2 ^ 63) ∷ []
unfolding shifts
shifts_are = refl

-- h8 set on the empty board, and a square past it
sets : set_of 0 63 ∷ set_of 0 64 ∷ [] ≡ given (2 ^ 63) ∷ refused 4 [] ∷ []
unfolding those has
sets = refl

-- a1, e4 and h8 one after the other
in_order : squares 0x8000000010000001 ≡ 0 ∷ 28 ∷ 63 ∷ []
unfolding squares
in_order = refl

put_back : board (0 ∷ 28 ∷ 63 ∷ []) ≡ 0x8000000010000001
unfolding board
put_back = refl

-- the first of them and the rest; none of the empty bitboard
firsts : next_of 0x8000000010000001 ≡ 0 ∷ 0x8000000010000000 ∷ []
unfolding those has lowest_of
firsts = refl

none : next_of 0 ≡ []
unfolding those has lowest_of
none = refl
