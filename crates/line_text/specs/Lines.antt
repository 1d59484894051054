-- The text of a position and of its line (W-202): "placement, each empty run as one digit, one space, side and, on request, `;` and a result, no other
-- space"; W-213: "the W-202 writer writes them all". To be read beside the PGN standard's FEN (16.1.3). Definitions only.
use Rattle.std.specs.Prelude.{List, [], ◌∷◌, ◌++◌, ℕ, zero, suc}
use Rattle.position.specs.declared.State.{State}
use Rattle.text_in.specs.Text.{text, space, semicolon}
use Rattle.line_parse.specs.Line.{sides, results}
use Rattle.line_text.specs.Spelt.{placement}
use Rattle.line_text.specs.Words.{rights_text, passant_text, counter_text}

-- the text at a place of a list, as `place_in` finds it; nothing past its end
abbrev pub text_at : List (List ℕ) → ℕ → List ℕ
text_at [] k = []
text_at (x ∷ xs) zero = x
text_at (x ∷ xs) (suc k) = text_at xs k

-- the fields behind the placement: side, rights, en passant square, half moves, moves
abbrev pub state_fields : State → List (List ℕ)
state_fields state =
    text_at sides state.side ∷ rights_text state.rights ∷ passant_text state.passant ∷ counter_text state.halfmoves ∷ counter_text state.moves ∷ []

-- fields with "one space" between two
abbrev pub parted : List (List ℕ) → List ℕ
parted [] = []
parted (x ∷ []) = x
parted (x ∷ (y ∷ ys)) = x ++ (space ∷ parted (y ∷ ys))

-- "placement, .. one space, side", and so on to the counters
abbrev pub position_text : List ℕ → State → List ℕ
position_text board state = parted (placement board ∷ state_fields state)

-- "and, on request, `;` and a result"
abbrev pub line_text : List ℕ → State → ℕ → List ℕ
line_text board state half = position_text board state ++ (semicolon ∷ text_at results half)

-- a line of a collection, with the LF that ends it
abbrev pub ended_line : List ℕ → State → ℕ → List ℕ
ended_line board state half = line_text board state half ++ text "\n"
