-- What is claimed of a position's text (W-202, with the six fields of W-213): it is read again, a line so written comes back, one text is of one position,
-- and none is long. Definitions only.
use Rattle.std.specs.Prelude.{◌≡◌, List, [], ◌∷◌, ◌++◌, ℕ, ◌^◌, ◌≤◌, ◌<◌, length, get_or}
use Rattle.refusal.specs.Answer.{given}
use Rattle.position_boards.specs.Boards.{bitboards_of}
use Rattle.position.specs.Checked.{Fitting}
use Rattle.position.specs.declared.State.{State}
use Rattle.text_in.specs.Text.{text, space, semicolon, after}
use Rattle.line_tail.specs.Words.{nth_word}
use Rattle.line_parse.specs.Line.{Line, line_of, position_field, result_field, ranks_of, side_word}
use Rattle.line_text.specs.Words.{or_else}
use Rattle.line_text.specs.Lines.{parted, position_text, line_text}

-- the line that says this
abbrev pub saying : List ℕ → State → ℕ → Line
saying board state half = record { state = state; half = half; board = board }

-- a position that no call refuses: its bitboards are numbers of 64 bits
pub record Sound (bitboards board : List ℕ) (state : State) : Type 0 where
  pub fits : Fitting bitboards board state
  pub words : (b : ℕ) → get_or bitboards b 0 < 2 ^ 64

-- "With a result, reading what it wrote gives the same position and result", whatever sound position and result it is: its board, side, rights, en passant
-- square and counters; the bitboards too
pub record ReadAgain (bitboards board : List ℕ) (state : State) (half : ℕ) : Type 0 where
  pub line : Sound bitboards board state → half < 3 → line_of (line_text board state half) ≡ given (saying board state half)
  pub boards : Sound bitboards board state → bitboards_of board ≡ bitboards

-- the fields behind the ranks as they stand in a line, the side before them: `-`, `-`, `0` and `1` for those that it has not
abbrev pub fields_behind : List ℕ → List ℕ → List (List ℕ)
fields_behind side s =
    side ∷ or_else (text "-") (nth_word 1 s) ∷ or_else (text "-") (nth_word 2 s) ∷ or_else (text "0") (nth_word 3 s) ∷ or_else (text "1") (nth_word 4 s) ∷ []

-- the six fields and the result of a line as they stand in it, with "one space" between two, one `;` and "no other space"
abbrev pub tidied : List ℕ → List ℕ
tidied line =
    let field : List ℕ = position_field line in
    parted (ranks_of field ∷ fields_behind (side_word field) (after space field)) ++ (semicolon ∷ result_field line)

-- "a line so written comes back as the same bytes"; any other that is taken, of two, four or six fields, comes back as its own fields and result, with the
-- four that it may not have
pub record ComesBack (line : List ℕ) (l : Line) : Type 0 where
  pub tidy : line_of line ≡ given l → line_text l.board l.state l.half ≡ tidied line
  pub same : line_of line ≡ given l → line ≡ tidied line → line_text l.board l.state l.half ≡ line

-- a sound position with its half points
pub record SoundLine : Type 0 where
  pub bitboards : List ℕ
  pub board : List ℕ
  pub state : State
  pub half : ℕ
  pub sound : Sound bitboards board state
  pub known : half < 3

-- two sound positions with the same text are one position; with a result they have one result too
pub record OnePosition (p q : SoundLine) : Type 0 where
  pub position : position_text p.board p.state ≡ position_text q.board q.state → (p.bitboards ≡ q.bitboards) × (p.board ≡ q.board)
      × (p.state ≡ q.state)
  pub line : line_text p.board p.state p.half ≡ line_text q.board q.state q.half
      → (p.bitboards ≡ q.bitboards) × (p.board ≡ q.board) × (p.state ≡ q.state) × (p.half ≡ q.half)

-- no text is longer, so that LONG never comes
pub record NoLonger (board : List ℕ) (state : State) (half : ℕ) : Type 0 where
  pub position : length (position_text board state) ≤ 91
  pub line : length (line_text board state half) ≤ 99
