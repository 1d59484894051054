-- Worked examples of the definitions, by computation. Assumes nothing.
use mathlib.Core.Path.{◌≡◌, refl}
use mathlib.Core.Bool.{true, false}
use mathlib.Core.List.{[], ◌∷◌}
use Rattle.text_in.specs.Text.{text, semicolon, is_text, is_blank, is_space, every, holds, before, after, without, trim, place_in}

-- the first and the last byte of a line, tab and CR; and bytes that are none: LF, 31, DEL
bytes : is_text 32 ∷ is_text 126 ∷ is_text 9 ∷ is_text 13 ∷ is_text 10 ∷ is_text 31 ∷ is_text 127 ∷ is_text 255 ∷ [] ≡ true ∷ true ∷ true ∷ true ∷ false
    ∷ false ∷ false ∷ false ∷ []
bytes = refl

blanks : is_blank 32 ∷ is_blank 9 ∷ is_blank 13 ∷ is_blank 10 ∷ is_blank 47 ∷ [] ≡ true ∷ true ∷ true ∷ false ∷ false ∷ []
blanks = refl

-- a byte among others
every_byte : every is_text (text "8/8 w;1-0\t\r") ∷ every is_text (text "1-0;\n") ∷ every is_text [] ∷ [] ≡ true ∷ false ∷ true ∷ []
unfolding every
every_byte = refl

-- the text before the first `;` and after it; where there is none; where it comes first
cut : before semicolon (text "a b;c;d") ∷ after semicolon (text "a b;c;d") ∷ before semicolon (text "ab") ∷ after semicolon (text "ab")
    ∷ before semicolon (text ";c") ∷ [] ≡ text "a b" ∷ text "c;d" ∷ text "ab" ∷ [] ∷ [] ∷ []
unfolding before after
cut = refl

there : holds semicolon (text "ab;") ∷ holds semicolon (text "ab") ∷ [] ≡ true ∷ false ∷ []
unfolding holds
there = refl

-- blanks go at both ends, and stay inside
trimmed : trim (text " \t\r a \t b\r\r ") ∷ trim (text " \t\r") ∷ trim (text "ab") ∷ [] ≡ text "a \t b" ∷ [] ∷ text "ab" ∷ []
unfolding trim
trimmed = refl

-- spaces alone are skipped
skipped : without is_space (text "  w") ∷ without is_space (text " \tw") ∷ [] ≡ text "w" ∷ text "\tw" ∷ []
unfolding without
skipped = refl

places : place_in (text "w" ∷ text "b" ∷ []) (text "w") ∷ place_in (text "w" ∷ text "b" ∷ []) (text "b") ∷ place_in (text "w" ∷ text "b" ∷ []) (text "wb")
    ∷ [] ≡ 0 ∷ 1 ∷ 2 ∷ []
unfolding place_in
places = refl
