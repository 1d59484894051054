-- Worked examples of the definitions, by computation. Assumes nothing.
use mathlib.Core.Path.{◌≡◌, refl}
use mathlib.Core.List.{List, [], ◌∷◌}
use Prim.Native.Nat.{ℕ}
use lib.IntN.{ℤ, pos, neg_ℤ}
use Rattle.refusal.specs.Answer.{Answer, given, refused}
use Rattle.score_taper.specs.Parts.{part_of, points_of}
use Rattle.score_taper.specs.declared.Side.{Side}

abbrev side : ℤ → ℤ → ℕ → ℕ → Side
side y0 y1 w m = record { opening = y0; ending = y1; material = w; mobility = m }

-- with 32 pieces a part is the opening's weight, with 2 the ending's; between them it is truncated toward zero, either way
parts : part_of (pos 70) (pos 9) 32 ∷ part_of (pos 70) (pos 9) 2 ∷ part_of (pos 29) (pos 0) 3 ∷ part_of (neg_ℤ (pos 29)) (pos 0) 3 ∷ [] ≡ pos 70 ∷ pos 9
    ∷ pos 0 ∷ pos 0 ∷ []
parts = refl

-- kings e1, e8 and the pawn e2: 117 for White, −95 for Black
pawn : Side
pawn = side (neg_ℤ (pos 20)) (neg_ℤ (pos 38)) 10100 0

king : Side
king = side (neg_ℤ (pos 4)) (neg_ℤ (pos 45)) 10000 0

pawn_ending_holds : points_of pawn king 3 ∷ points_of king pawn 3 ∷ [] ≡ given (pos 117) ∷ given (neg_ℤ (pos 95)) ∷ []
unfolding pawn king
pawn_ending_holds = refl

-- each side is truncated by itself: 29 and −29 thirtieths leave the 11 alone
apart : points_of (side (pos 29) (pos 0) 0 0) (side (neg_ℤ (pos 29)) (pos 0) 0 0) 3 ≡ given (pos 11)
apart = refl

-- mobility is in tenths, and each side's is divided by itself
tenths : points_of (side (pos 0) (pos 0) 0 19) (side (pos 0) (pos 0) 0 0) 3 ∷ points_of (side (pos 0) (pos 0) 0 20) (side (pos 0) (pos 0) 0 19) 3 ∷ []
    ≡ given (pos 12) ∷ given (pos 12) ∷ []
tenths = refl

-- 32767 is a score and 32768 is SCORE, of material, of mobility, of a product, and of a sum
ends : List (Answer ℤ)
ends =
    points_of (side (pos 0) (pos 0) 32767 0) (side (pos 0) (pos 0) 11 0) 32
    ∷ points_of (side (pos 0) (pos 0) 32767 0) (side (pos 0) (pos 0) 10 0) 32
    ∷ points_of (side (pos 0) (pos 0) 32768 0) (side (pos 0) (pos 0) 11 0) 32
    ∷ points_of (side (pos 0) (pos 0) 0 32767) (side (pos 0) (pos 0) 0 0) 32
    ∷ points_of (side (pos 0) (pos 0) 0 32768) (side (pos 0) (pos 0) 0 0) 32
    ∷ points_of (side (neg_ℤ (pos 32767)) (pos 0) 0 0) (side (pos 0) (pos 0) 0 0) 3
    ∷ points_of (side (neg_ℤ (pos 32768)) (pos 0) 0 0) (side (pos 0) (pos 0) 0 0) 3
    ∷ points_of (side (pos 0) (pos 0) 0 0) (side (pos 0) (pos 0) 32767 30) 32
    ∷ []

ends_are : ends ≡ given (pos 32767) ∷ refused 3 [] ∷ refused 3 [] ∷ given (pos 3287) ∷ refused 3 [] ∷ given (neg_ℤ (pos 1081)) ∷ refused 3 [] ∷ refused 3 [] ∷ []
unfolding ends
ends_are = refl
