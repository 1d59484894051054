-- Which captures an exchange may start with: document 01's MOVE and CROWD, and en passant in W-213's second mode. Definitions only.
use Rattle.std.specs.Prelude.{Bool, false, cond, ◌||◌, ◌&&◌, List, ℕ, ◌+◌, ◌-◌, eqb, leb, get_or, Option, None, Some}
use Rattle.chess.specs.Codes.{kind_of}
use Rattle.chess.specs.Named.{white, black, pawn, king}
use Rattle.bits.specs.Bitboard.{has, how_many}
use Rattle.position_boards.specs.Sound.{on}
use Rattle.position.specs.declared.State.{State}
use Rattle.attack.specs.Attacks.{standing, occupied, other, attacks}
use Rattle.exchange_start.specs.declared.Mode.{Mode}
use Rattle.exchange_start.specs.declared.Mode.TheVariants.{First, Second}

-- the kind of the piece on a square
abbrev pub kind_on : List ℕ → ℕ → ℕ
kind_on bytes s = kind_of (get_or bytes s 0)

-- ---- W-213: "A second exchange mode lets a pawn take en passant as the first capture"
-- the square is the position's en passant square
abbrev pub is_passant : Option ℕ → ℕ → Bool
is_passant None s = false
is_passant (Some square) s = eqb square s

-- a pawn on the start takes there; in the first mode, which is document 01's, none does
abbrev pub takes_passing : Mode → List ℕ → State → ℕ → ℕ → Bool
takes_passing First bytes state from to = false
takes_passing Second bytes state from to = eqb (kind_on bytes from) pawn && is_passant state.passant to

-- "the passed pawn": just below the square with White to move, just above it with Black
abbrev pub passed_pawn : ℕ → ℕ → ℕ
passed_pawn side s = cond (eqb side white) (s - 8) (s + 8)

-- ---- MOVE: "no piece of the side to move on the start, none of the other side on the target, or the piece doesn't attack the target"
-- a piece of the other side on the target, which a pawn that takes en passant does without
abbrev pub may_take : Mode → List ℕ → List ℕ → State → ℕ → ℕ → Bool
may_take mode bbs bytes state from to = on bbs (other state.side) to || takes_passing mode bytes state from to

unfoldable pub may_capture : Mode → List ℕ → List ℕ → State → ℕ → ℕ → Bool
unfolding has occupied attacks
may_capture mode bbs bytes state from to =
    on bbs state.side from && may_take mode bbs bytes state from to && has (attacks (kind_on bytes from) state.side from (occupied bbs)) to

-- CROWD: "over 32 pieces, or two or more kings of one colour"
unfoldable pub uncrowded : List ℕ → Bool
unfolding has how_many occupied
uncrowded bbs =
    leb (how_many 64 (has (occupied bbs))) 32
    && leb (how_many 64 (has (standing bbs king white))) 1 && leb (how_many 64 (has (standing bbs king black))) 1
