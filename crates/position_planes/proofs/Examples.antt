-- Worked examples of the definitions, by computation. Assumes nothing.
use mathlib.Core.Path.{◌≡◌, refl}
use mathlib.Core.List.{List, [], ◌∷◌}
use Prim.Native.Nat.{ℕ}
use lib.ListN.{get_or}
use Rattle.laws.specs.Tables.{tabulate}
use Rattle.bits.specs.Bitboard.{those}
use Rattle.position_planes.specs.Sorted.{table_place, sorted_by}

-- an empty square, the last code and what is no code
places : table_place 0 ∷ table_place 13 ∷ table_place 14 ∷ table_place 255 ∷ [] ≡ 0 ∷ 13 ∷ 14 ∷ 14 ∷ []
places = refl

-- a white pawn on a1, a black queen on c1, a byte of 130 on d1, and nothing else
four : List ℕ
four = 2 ∷ 0 ∷ 13 ∷ 130 ∷ []

four_sorted : get_or (sorted_by four) 2 0 ∷ get_or (sorted_by four) 13 0 ∷ get_or (sorted_by four) 14 0 ∷ [] ≡ 1 ∷ 4 ∷ 8 ∷ []
unfolding four sorted_by tabulate those
four_sorted = refl
