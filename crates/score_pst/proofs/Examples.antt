-- Worked examples of the definitions, by computation. Assumes nothing.
use mathlib.Core.Path.{◌≡◌, refl}
use mathlib.Core.List.{[], ◌∷◌}
use Rattle.score_pst.specs.Grids.{p, m}
use Rattle.score_pst.specs.Pst.{pst_of, pst_place}

-- pawns on e2 and e7 weigh the same in the opening, −16, and in the ending, 7; the white one on e7 67 and 88
pawns : pst_of 2 12 0 ∷ pst_of 3 52 0 ∷ pst_of 2 12 1 ∷ pst_of 3 52 1 ∷ pst_of 2 52 0 ∷ pst_of 2 52 1 ∷ [] ≡ m 16 ∷ m 16 ∷ p 7 ∷ p 7 ∷ p 67 ∷ p 88 ∷ []
unfolding pst_of
pawns = refl

-- kings on g1 and b8: 38 and −4 in the opening, −49 and −27 in the ending
kings : pst_of 6 6 0 ∷ pst_of 7 57 0 ∷ pst_of 6 6 1 ∷ pst_of 7 57 1 ∷ [] ≡ p 38 ∷ m 4 ∷ m 49 ∷ m 27 ∷ []
unfolding pst_of
kings = refl

-- codes 0 and 1, a code 14, a square 64 and a phase 2 weigh nothing
outside : pst_of 0 4 0 ∷ pst_of 1 60 0 ∷ pst_of 14 4 0 ∷ pst_of 2 64 0 ∷ pst_of 2 12 2 ∷ [] ≡ p 0 ∷ p 0 ∷ p 0 ∷ p 0 ∷ p 0 ∷ []
unfolding pst_of
outside = refl

-- the first place, the ending's of b1 of a white pawn, the last
places : pst_place 0 0 0 ∷ pst_place 2 1 1 ∷ pst_place 13 63 1 ∷ [] ≡ 0 ∷ 259 ∷ 1791 ∷ []
places = refl
