-- The squares at which a test fails, and those of the two tests that the 14 bitboards alone decide. Definitions only.
use Rattle.std.specs.Prelude.{Bool, not, cond, List, ℕ, eqb, length}
use Rattle.bits.specs.Bitboard.{those}
use Rattle.position_boards.specs.Sound.{apart, united}

-- the squares where a test fails
abbrev pub wrong_of : (ℕ → Bool) → ℕ
wrong_of f = those 64 (λ k. not (f k))

-- where "two piece boards overlap"; none unless there are 14 boards
abbrev pub overlap_of : List ℕ → ℕ
overlap_of bbs = cond (eqb (length bbs) 14) (wrong_of (apart bbs)) 0

-- where "a colour's union is wrong", White's or Black's; none unless there are 14 boards
abbrev pub split_of : List ℕ → ℕ
split_of bbs = cond (eqb (length bbs) 14) (wrong_of (united bbs)) 0
