-- What the consistency rule asks of castling rights, the en passant square and the counters (document 02, W-213). Definitions only.
use Rattle.std.specs.Prelude.{Bool, true, cond, ◌&&◌, List, ℕ, ◌+◌, ◌-◌, ◌/◌, eqb, leb, get_or, Option, None, Some}
use Prim.Native.Char.{code}
use Rattle.chess.specs.Codes.{code_of}
use Rattle.chess.specs.Named.{white, black, pawn, rook, king, square_of}
use Rattle.position_further.specs.declared.Rights.{Rights}

-- what stands on an empty square
abbrev pub empty_square : ℕ
empty_square = 0

-- by the board bytes, this stands on the square
abbrev pub stands : List ℕ → ℕ → ℕ → Bool
stands bytes s byte = eqb (get_or bytes s empty_square) byte

-- ---- "a right needs its king and rook at home"
-- where there is the right, the king stands at its place and the rook in its corner
unfoldable pub home : List ℕ → Bool → ℕ → ℕ → ℕ → ℕ → Bool
home bytes right at king corner rook = cond right (stands bytes at king && stands bytes corner rook) true

-- K needs e1 and h1, Q e1 and a1, k e8 and h8, q e8 and a8
unfoldable pub at_home : List ℕ → Rights → Bool
unfolding home
at_home bytes r =
    home bytes r.white_short (square_of (code "e") (code "1")) (code_of king white) (square_of (code "h") (code "1")) (code_of rook white)
    && home bytes r.white_long (square_of (code "e") (code "1")) (code_of king white) (square_of (code "a") (code "1")) (code_of rook white)
    && home bytes r.black_short (square_of (code "e") (code "8")) (code_of king black) (square_of (code "h") (code "8")) (code_of rook black)
    && home bytes r.black_long (square_of (code "e") (code "8")) (code_of king black) (square_of (code "a") (code "8")) (code_of rook black)

-- ---- "an en passant square is empty, stands on rank 6 with White to move, a black pawn just below it, or on rank 3 with Black to move, a white pawn
-- just above"
-- ranks are counted from 1
abbrev pub on_rank : ℕ → ℕ → Bool
on_rank rank s = eqb (s / 8 + 1) rank

-- any side but White's counts as Black's; nothing is asked where there is no such square
unfoldable pub just_passed : List ℕ → ℕ → Option ℕ → Bool
just_passed bytes side None = true
just_passed bytes side (Some s) =
    stands bytes s empty_square
    && cond (eqb side white) (on_rank 6 s && stands bytes (s - 8) (code_of pawn black)) (on_rank 3 s && stands bytes (s + 8) (code_of pawn white))

-- ---- the counters: "0 to 9999 and 1 to 9999"
abbrev pub counters_fit : ℕ → ℕ → Bool
counters_fit halfmoves moves = leb halfmoves 9999 && (leb 1 moves && leb moves 9999)
