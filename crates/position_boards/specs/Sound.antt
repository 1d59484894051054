-- What stands on the 14 bitboards, and the two tests of a consistent position that they alone decide (document 01, "A consistent position").
-- The piece boards are those of codes 2 to 13, White's even and Black's odd. Definitions only.
use Rattle.std.specs.Prelude.{Bool, ◌&&◌, List, ℕ, ◌+◌, ◌*◌, eqb, leb, length, get_or}
use Rattle.std.specs.Bool.{beq}
use Rattle.laws.specs.Tests.{all_below}
use Rattle.bits.specs.Bitboard.{has, some, how_many}

-- the board of a code has square k
abbrev pub on : List ℕ → ℕ → ℕ → Bool
on bbs code k = has (get_or bbs code 0) k

-- how many of the twelve piece boards have square k
unfoldable pub boards_with : List ℕ → ℕ → ℕ
boards_with bbs k = how_many 12 (λ n. on bbs (2 + n) k)

-- "the twelve piece boards (codes 2 to 13) don't overlap"
abbrev pub apart : List ℕ → ℕ → Bool
apart bbs k = leb (boards_with bbs k) 1

-- one of the boards of a colour has square k: codes 2, 4, .., 12 for White, 3, 5, .., 13 for Black
unfoldable pub of_colour : List ℕ → ℕ → ℕ → Bool
of_colour bbs colour k = some 6 (λ n. on bbs (2 + 2 * n + colour) k)

-- a colour's board has square k exactly where one of its pieces' has
abbrev pub united_in : List ℕ → ℕ → ℕ → Bool
united_in bbs colour k = beq (on bbs colour k) (of_colour bbs colour k)

-- "board 0 is the union of the even codes from 2, board 1 of the odd codes from 3"
abbrev pub united : List ℕ → ℕ → Bool
united bbs k = united_in bbs 0 k && united_in bbs 1 k

-- there are 14, and the two tests hold over all squares
unfoldable pub sound : List ℕ → Bool
sound bbs = eqb (length bbs) 14 && (all_below 64 (apart bbs) && all_below 64 (united bbs))
