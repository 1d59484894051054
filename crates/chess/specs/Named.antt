-- Kinds and colours by name (document 01: "Kinds run 0 to 5: pawn, knight, bishop, rook, queen, king"; "WHITE 0, BLACK 1"), and squares by file and rank.
-- Definitions only.
use Rattle.std.specs.Prelude.{cond, ◌&&◌, ℕ, ◌+◌, ◌*◌, ◌-◌, eqb, leb, ℤ, neg_ℤ}
use Prim.Native.Char.{code}

abbrev pub white : ℕ
white = 0

abbrev pub black : ℕ
black = 1

abbrev pub pawn : ℕ
pawn = 0

abbrev pub knight : ℕ
knight = 1

abbrev pub bishop : ℕ
bishop = 2

abbrev pub rook : ℕ
rook = 3

abbrev pub queen : ℕ
queen = 4

abbrev pub king : ℕ
king = 5

-- demand 3: "turn its sign if Black is to move"; W-210: "scores are turned to White's side"
abbrev pub turned_for_black : ℕ → ℤ → ℤ
turned_for_black side z = cond (eqb side white) z (neg_ℤ z)

-- the square of a file's letter and a rank's digit; 64, which is none, for any other bytes
abbrev pub square_of : ℕ → ℕ → ℕ
square_of file rank = cond ((leb (code "a") file && leb file (code "h")) && (leb (code "1") rank && leb rank (code "8")))
    (8 * (rank - code "1") + (file - code "a")) 64
