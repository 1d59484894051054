-- Worked examples of the definitions, by computation. Assumes nothing.
use Rattle.std.proofs.Common.{◌≡◌, [], ◌∷◌, refl}
use Rattle.text_in.specs.Text.{text}
use Rattle.text_out.specs.Text.{digits_up_to}
use Rattle.store_text.specs.Board.{drawn_square, laid}
use Rattle.store_text.specs.Table.{in_column, count_word, letters_row}
use Rattle.store_text.specs.Picture.{darkness, square_drawn}

-- a8 first, h8 at the end of the first row, a1 at the start of the last
drawn : drawn_square 0 ∷ drawn_square 7 ∷ drawn_square 56 ∷ drawn_square 63 ∷ [] ≡ 56 ∷ 63 ∷ 0 ∷ 7 ∷ []
drawn = refl

columns : in_column 3 (count_word 0) ∷ in_column 3 (count_word 12) ∷ in_column 1 (count_word 345) ∷ [] ≡ text "   ." ∷ text "  12" ∷ text " 345" ∷ []
unfolding in_column digits_up_to
columns = refl

letters : letters_row 2 ≡ text "   a  b  c  d  e  f  g  h\n"
unfolding letters_row laid in_column
letters = refl

-- none, a third, the largest; and where no square has any
dark : darkness 27 0 ∷ darkness 27 9 ∷ darkness 27 27 ∷ darkness 0 0 ∷ [] ≡ 0 ∷ 3 ∷ 9 ∷ 0 ∷ []
dark = refl

square : square_drawn 27 9 9 ≡ text "<rect x='48' y='48' width='48' height='48' class='h3'/>"
unfolding square_drawn digits_up_to
square = refl
