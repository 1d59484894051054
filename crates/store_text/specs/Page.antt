-- A summary as a text, in one of two forms: the records, the half points, and the twelve boards. Definitions only.
use Rattle.std.specs.Prelude.{ℕ, ◌-◌, ◌/◌, ◌%◌, cond, List, [], ◌++◌, ◌==◌, slice_index}
use Rattle.text_in.specs.Text.{text}
use Rattle.text_out.specs.Text.{decimal_of}
use Rattle.store_text.specs.Board.{count_on, total_of, most_of, drawn_square, piece_words, laid}
use Rattle.store_text.specs.Table.{width_of, in_column, count_word, letters_row}
use Rattle.store_text.specs.Picture.{square_drawn, count_if_any, rank_drawn, letters_drawn, board_at, picture_begin, numbered}
use Rattle.store_text.specs.declared.Form.{Form}
use Rattle.store_text.specs.declared.Form.TheVariants as F

-- ---- what the forms differ in
abbrev pub page_begin : Form → List ℕ
page_begin F.Table = []
page_begin F.Picture = picture_begin

abbrev pub page_end : Form → List ℕ
page_end F.Table = []
page_end F.Picture = text "</svg>\n"

-- after a line of words
abbrev pub words_end : Form → List ℕ
words_end F.Table = text "\n"
words_end F.Picture = text "</text>\n"

abbrev pub board_begin : Form → ℕ → List ℕ
board_begin F.Table piece = text "\n"
board_begin F.Picture piece = board_at piece

abbrev pub board_end : Form → ℕ → List ℕ
board_end F.Table most = letters_row (width_of most)
board_end F.Picture most = letters_drawn

abbrev pub rank_digit : Form → ℕ → List ℕ
rank_digit F.Table i = decimal_of (8 - i / 8)
rank_digit F.Picture i = rank_drawn i

abbrev pub square_word : Form → ℕ → ℕ → ℕ → List ℕ
square_word F.Table most n i = in_column (width_of most) (count_word n)
square_word F.Picture most n i = square_drawn most n i ++ count_if_any n i

-- ---- what they have in common
-- a square as it is drawn: the rank before the first of its files, and the row's end after the last
abbrev pub rank_before : Form → ℕ → List ℕ
rank_before form i = cond (i % 8 == 0) (rank_digit form i) []

abbrev pub row_end : ℕ → List ℕ
row_end i = cond (i % 8 == 7) (text "\n") []

unfoldable pub square_shown : Form → ℕ → ℕ → ℕ → List ℕ
square_shown form most n i = rank_before form i ++ (square_word form most n i ++ row_end i)

-- the piece and how many there are
unfoldable pub board_head : Form → ℕ → ℕ → List ℕ
board_head form piece total = board_begin form piece ++ (piece_words piece ++ (decimal_of total ++ words_end form))

abbrev pub squares_shown : Form → List ℕ → ℕ → ℕ → ℕ → List ℕ
squares_shown form summary piece most i = square_shown form most (count_on summary piece (drawn_square i)) i

unfoldable pub board_text : Form → List ℕ → ℕ → List ℕ
board_text form summary piece =
    board_head form piece (total_of summary piece) ++ (laid 64 (squares_shown form summary piece (most_of summary piece)) ++ board_end form (most_of summary piece))

unfoldable pub page_head : Form → ℕ → ℕ → List ℕ
page_head form records points = page_begin form ++ (numbered (text "records ") records ++ (numbered (text " half points ") points ++ words_end form))

-- THE TEXT OF A SUMMARY
unfoldable pub page_of : Form → List ℕ → List ℕ
page_of form summary = page_head form (slice_index summary 0) (slice_index summary 1) ++ (laid 12 (board_text form summary) ++ page_end form)
