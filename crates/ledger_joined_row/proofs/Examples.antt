-- Worked examples of the definitions, by computation. Assumes nothing.
use mathlib.Core.Path.{◌≡◌, refl}
use mathlib.Core.Bool.{Bool, true, false}
use mathlib.Core.List.{[], ◌∷◌, map}
use Prim.Native.String.{String}
use Rattle.text_in.specs.Text.{text}
use Rattle.text_out.specs.Text.{digits_up_to}
use Rattle.ledger_whole.specs.Whole.{ends_in_lf}
use Rattle.ledger_joined_row.specs.Rows.{comes_to, is_row}

row7 : String → Bool
unfolding comes_to digits_up_to ends_in_lf
row7 s = is_row 7 (text s)

-- rows of line 7
taken :
    map row7 ("7 2 117\n" ∷ "7 0 -95\n" ∷ "7 1 0\n" ∷ "7 1 won\n" ∷ "7 2 lost\n" ∷ "7 0 drawn\n" ∷ "7 0 over\n" ∷ "7 2 32767\n" ∷ "7 2 -32768\n"
    ∷ "7 refused 13\n" ∷ [])
    ≡ true ∷ true ∷ true ∷ true ∷ true ∷ true ∷ true ∷ true ∷ true ∷ true ∷ []
unfolding row7
taken = refl

-- another number; half points 3; a score with a zero before it, minus 0, past 16 bits either way, none, another word, a space more; a refusal of
-- three digits, 0, none
none :
    map row7 ("8 2 117\n" ∷ "7 3 117\n" ∷ "7 2 0117\n" ∷ "7 2 -0\n" ∷ "7 2 32768\n" ∷ "7 2 -32769\n" ∷ "7 2 \n" ∷ "7 2 banana\n" ∷ "7 2 117 \n"
    ∷ "7 refused 113\n" ∷ "7 refused 0\n"
    ∷ "7 refused \n" ∷ [])
    ≡ false ∷ false ∷ false ∷ false ∷ false ∷ false ∷ false ∷ false ∷ false ∷ false ∷ false ∷ false ∷ []
unfolding row7
none = refl

-- CR before LF, no LF, no number
other : map row7 ("7 2 117\r\n" ∷ "7 2 117" ∷ "2 117\n" ∷ "\n" ∷ "" ∷ []) ≡ false ∷ false ∷ false ∷ false ∷ false ∷ []
unfolding row7
other = refl
