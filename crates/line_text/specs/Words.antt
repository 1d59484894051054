-- The text of castling rights, of an en passant square and of a counter (W-213), as the PGN standard's FEN has them (16.1.3.3 to 16.1.3.6). Definitions only.
use Rattle.std.specs.Prelude.{Bool, true, false, cond, List, [], ◌∷◌, ◌++◌, ℕ, ◌+◌, ◌/◌, ◌%◌, leb, Option, None, Some}
use Prim.Native.Char.{code}
use Rattle.position_further.specs.declared.Rights.{Rights}
use Rattle.text_in.specs.Text.{text}
use Rattle.text_out.specs.Text.{decimal_of}

-- the text, or another in the place of an empty one
abbrev pub or_else : List ℕ → List ℕ → List ℕ
or_else other [] = other
or_else other (b ∷ s) = b ∷ s

-- ---- "rights as `-` or letters in the order KQkq"
-- the letter of a right that there is
abbrev pub letter_for : Bool → ℕ → List ℕ
letter_for true letter = letter ∷ []
letter_for false letter = []

abbrev pub rights_letters : Rights → List ℕ
rights_letters r =
    letter_for r.white_short (code "K")
    ++ (letter_for r.white_long (code "Q") ++ (letter_for r.black_short (code "k") ++ letter_for r.black_long (code "q")))

abbrev pub rights_text : Rights → List ℕ
rights_text r = or_else (text "-") (rights_letters r)

-- ---- the en passant square: `-`, or its file and its rank
abbrev pub square_text : ℕ → List ℕ
square_text s = (code "a" + s % 8) ∷ ((code "1" + s / 8) ∷ [])

abbrev pub passant_text : Option ℕ → List ℕ
passant_text None = text "-"
passant_text (Some s) = square_text s

-- ---- "counters in decimal without leading zeros": nothing for a number past 9999, which is no counter
abbrev pub counter_text : ℕ → List ℕ
counter_text n = cond (leb n 9999) (decimal_of n) []
