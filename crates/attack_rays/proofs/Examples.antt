-- Boards worked out by another program: what the definitions say is what it found, by computation. Assumes nothing.
use Rattle.std.proofs.Common.{ℕ, Bool, true, ◌&&◌, T, eqb, List, [], ◌∷◌, ◌++◌}
use Rattle.bits.specs.Bitboard.{board}
use Rattle.attack_steps.specs.Steps.{Step}
use Rattle.attack_rays.specs.Rays.{seen, straight, slanted}

-- directions, square, occupied squares, squares attacked
record Case : Type 0 where
  ds : List Step
  at : ℕ
  occ : ℕ
  out : ℕ

abbrev case : List Step → ℕ → ℕ → ℕ → Case
case ds s o r = record { ds = ds; at = s; occ = o; out = r }

abbrev cases : List Case
cases =
    case straight 0 0x5258050086212e18 0x1010e
    ∷ case slanted 0 0x5258050086212e18 0x200
    ∷ case straight 7 0x9101001400 0x808080807f
    ∷ case slanted 7 0x9101001400 0x102040810204000
    ∷ case straight 56 0x2c8044d703b8086 0x201010100000000
    ∷ case slanted 56 0x2c8044d703b8086 0x2040000000000
    ∷ case straight 63 0x488012011404441 0x7c80000000000000
    ∷ case slanted 63 0x488012011404441 0x40201008040201
    ∷ case straight 27 0x42004c11133ae6a 0x808080817080800
    ∷ case slanted 27 0x42004c11133ae6a 0x8041221400140200
    ∷ case straight 36 0x20200405a033400 0x1010106f10000000
    ∷ case slanted 36 0x20200405a033400 0x8244280028408000
    ∷ case straight 19 0x840e805441001 0x808740808
    ∷ case slanted 19 0x840e805441001 0x2014001402
    ∷ case straight 33 0x806801000001000 0x2021d02020202
    ∷ case slanted 33 0x806801000001000 0x1008050005081000
    ∷ case straight 12 0x1000080008000102 0x101010101010ef10
    ∷ case slanted 12 0x1000080008000102 0x18244280028
    ∷ case straight 41 0x2808001021 0x202fd0202020202
    ∷ case slanted 41 0x2808001021 0x805000508000000
    ∷ case (straight ++ slanted) 27 0xffff00000000ffff 0x492a1cf71c2a00
    ∷ case (straight ++ slanted) 4 0xffff00000000ffff 0x3828
    ∷ case straight 0 0x0 0x1010101010101fe
    ∷ case slanted 35 0xffffffffffffffff 0x140014000000
    ∷ case (straight ++ slanted) 64 0x0 0x0
    ∷ []

abbrev right : List Case → Bool
right [] = true
right (c ∷ cs) = eqb (board (seen c.ds c.at c.occ)) c.out && right cs

all_right : T (right cases)
unfolding board seen
all_right = tt
