-- The masks by which the squares that steps reach are counted, for all pieces at once: each with what its squares count for. Only the bodies know of
-- this. Definitions only.
use Rattle.std.specs.Prelude.{Bool, cond, List, [], ◌∷◌, ℕ, ◌+◌, ◌*◌, eqb}
use Rattle.std.specs.Int.Bits.{bit_and}
use Rattle.bits.specs.Bitboard.{has, digit, how_many}

pub record Mask : Type 0 where
  pub weight : ℕ
  pub mask : ℕ

abbrev pub by : ℕ → ℕ → Mask
by w m = record { weight = w; mask = m }

-- what a square counts for
abbrev pub counts_for : List Mask → ℕ → ℕ
counts_for [] s = 0
counts_for (m ∷ ms) s = m.weight * digit (has m.mask s) + counts_for ms s

-- what the squares of a bitboard count for, mask by mask
abbrev pub masked : List Mask → ℕ → ℕ
masked [] b = 0
masked (m ∷ ms) b = m.weight * how_many 64 (has (bit_and b m.mask)) + masked ms b

-- a pawn attacks a square to its left, and one to its right
abbrev pub pawn_masks_of : Bool → List Mask
pawn_masks_of white = by 1 (cond white 0x00fe_fefe_fefe_fefe 0xfefe_fefe_fefe_fe00) ∷ by 1 (cond white 0x007f_7f7f_7f7f_7f7f 0x7f7f_7f7f_7f7f_7f00) ∷ []

abbrev pub pawn_masks : ℕ → List Mask
pawn_masks colour = pawn_masks_of (eqb colour 0)

-- a knight 2, 3, 4, 6 or 8: the digits of that number
abbrev pub knight_masks : List Mask
knight_masks = by 1 0x4281_0000_0000_8142 ∷ by 2 0xc3bd_4242_4242_bdc3 ∷ by 4 0x3c7e_c3c3_c3c3_7e3c ∷ by 8 0x0000_3c3c_3c3c_0000 ∷ []

-- a king 3, 5 or 8
abbrev pub king_masks : List Mask
king_masks = by 3 0x8100_0000_0000_0081 ∷ by 5 0x7e81_8181_8181_817e ∷ by 8 0x007e_7e7e_7e7e_7e00 ∷ []
