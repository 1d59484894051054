-- How long each text is at most, whatever its numbers. Assumes nothing.
use Rattle.std.proofs.Common.{ℕ, zero, suc, ◌+◌, ◌-◌, ◌*◌, ◌/◌, ◌%◌, ◌≤◌, Bool, true, false, cond, eqb, List, [], ◌++◌, length, get_or, replicate, arith, length-append}
use lib.ListN.{length-replicate}
use Rattle.text_in.specs.Text.{text}
use Rattle.text_out.specs.Text.{decimal_of}
use Rattle.text_out.proofs.Added.{length_20}
use Rattle.ledger_totals.proofs.Fits.{length_named}
use Rattle.store_text.specs.Board.{count_on, drawn_square, total_of, most_of, piece_words, laid}
use Rattle.store_text.specs.Table.{width_of, in_column, count_word, file_word, letters_row}
use Rattle.store_text.specs.Picture.{darkness, across_at, down_at, numbered, square_drawn, count_drawn, count_if_any, rank_drawn, letters_drawn}
use Rattle.store_text.specs.Picture.{board_at, picture_begin}
use Rattle.store_text.specs.Page.{page_begin, page_end, words_end, board_begin, board_end, rank_digit, square_word, rank_before, row_end, square_shown}
use Rattle.store_text.specs.Page.{board_head, squares_shown, board_text, page_head, page_of}
use Rattle.store_text.specs.declared.Form.{Form}
use Rattle.store_text.specs.declared.Form.TheVariants as F
use Rattle.store_text.proofs.Laid.{length_laid}

-- one of two texts
either : (t : Bool) (x y : List ℕ) (n : ℕ) → length x ≤ n → length y ≤ n → length (cond t x y) ≤ n
either true x y n p q = p
either false x y n p q = q

-- three texts and four
three : (x y z : List ℕ) (a b c : ℕ) → length x ≤ a → length y ≤ b → length z ≤ c → length (x ++ (y ++ z)) ≤ a + b + c
three x y z a b c p q r = omega (arith, length-append x (y ++ z), length-append y z)

four : (x y z w : List ℕ) (a b c d : ℕ) → length x ≤ a → length y ≤ b → length z ≤ c → length w ≤ d → length (x ++ (y ++ (z ++ w))) ≤ a + b + c + d
four x y z w a b c d p q r s = omega (arith, length-append x (y ++ (z ++ w)), length-append y (z ++ w), length-append z w)

-- ---- the table
pub length_column : (width : ℕ) (word : List ℕ) → width ≤ 20 → length word ≤ 20 → length (in_column width word) ≤ 21
unfolding in_column
length_column width word h k = omega (
  arith,
  length-append (replicate {A = ℕ} (width - length word + 1) 32) word,
  length-replicate {A = ℕ} (width - length word + 1) 32,
)

pub length_count : (n : ℕ) → length (count_word n) ≤ 20
length_count n = either (eqb n 0) (text ".") (decimal_of n) 20 (omega arith) (length_20 n)

pub length_files : (width : ℕ) → width ≤ 20 → (file : ℕ) → length (in_column width (file_word file)) ≤ 21
length_files width h file = length_column width (file_word file) h (omega arith)

pub length_letters : (width : ℕ) → width ≤ 20 → length (letters_row width) ≤ 170
unfolding letters_row
length_letters width h =
    three (text " ") (laid 8 (λ file. in_column width (file_word file))) (text "\n") 1 168 1 (omega arith)
    (length_laid 8 21 (λ file. in_column width (file_word file)) (length_files width h)) (omega arith)

-- ---- the picture
pub length_square : (most n i : ℕ) → length (square_drawn most n i) ≤ 110
unfolding square_drawn
length_square most n i =
    four (numbered (text "<rect x='") (across_at i)) (numbered (text "' y='") (down_at i))
    (numbered (text "' width='48' height='48' class='h") (darkness most n)) (text "'/>") 29 25 53 3
    (length_named (text "<rect x='") (across_at i)) (length_named (text "' y='") (down_at i))
    (length_named (text "' width='48' height='48' class='h") (darkness most n)) (omega arith)

length_drawn : (n i : ℕ) → length (count_drawn n i) ≤ 83
unfolding count_drawn
length_drawn n i =
    four (numbered (text "<text x='") (across_at i + 24)) (numbered (text "' y='") (down_at i + 29)) (numbered (text "'>") n) (text "</text>") 29 25 22 7
    (length_named (text "<text x='") (across_at i + 24)) (length_named (text "' y='") (down_at i + 29)) (length_named (text "'>") n) (omega arith)

pub length_if_any : (n i : ℕ) → length (count_if_any n i) ≤ 83
length_if_any n i = either (eqb n 0) [] (count_drawn n i) 83 (omega arith) (length_drawn n i)

length_rank : (i : ℕ) → length (rank_drawn i) ≤ 66
unfolding rank_drawn
length_rank i =
    three (numbered (text "<text x='-14' y='") (down_at i + 29)) (numbered (text "'>") (8 - i / 8)) (text "</text>") 37 22 7
    (length_named (text "<text x='-14' y='") (down_at i + 29)) (length_named (text "'>") (8 - i / 8)) (omega arith)

length_at : (piece : ℕ) → length (board_at piece) ≤ 93
unfolding board_at
length_at piece =
    three (numbered (text "<g transform='translate(") (60 + 440 * (piece % 4))) (numbered (text " ") (100 + 450 * (piece / 4)))
    (text ")'>\n<text class='t' y='-12'>") 44 21 28
    (length_named (text "<g transform='translate(") (60 + 440 * (piece % 4))) (length_named (text " ") (100 + 450 * (piece / 4))) (omega arith)

-- ---- both forms
pub length_begin : (form : Form) → length (page_begin form) ≤ 410
unfolding picture_begin
length_begin F.Table = omega arith
length_begin F.Picture = omega arith

pub length_words : (form : Form) → length (words_end form) ≤ 8
length_words F.Table = omega arith
length_words F.Picture = omega arith

pub length_page_end : (form : Form) → length (page_end form) ≤ 7
length_page_end F.Table = omega arith
length_page_end F.Picture = omega arith

pub length_board_begin : (form : Form) (piece : ℕ) → length (board_begin form piece) ≤ 93
length_board_begin F.Table piece = omega arith
length_board_begin F.Picture piece = length_at piece

pub length_board_end : (form : Form) (most : ℕ) → length (board_end form most) ≤ 300
unfolding letters_drawn
length_board_end F.Table most = omega (arith, length_letters (width_of most) (length_20 most))
length_board_end F.Picture most = omega arith

length_rank_word : (form : Form) (i : ℕ) → length (rank_digit form i) ≤ 66
length_rank_word F.Table i = omega (arith, length_20 (8 - i / 8))
length_rank_word F.Picture i = length_rank i

pub length_before : (form : Form) (i : ℕ) → length (rank_before form i) ≤ 66
length_before form i = either (eqb (i % 8) 0) (rank_digit form i) [] 66 (length_rank_word form i) (omega arith)

pub length_square_word : (form : Form) (most n i : ℕ) → length (square_word form most n i) ≤ 193
length_square_word F.Table most n i = omega (arith, length_column (width_of most) (count_word n) (length_20 most) (length_count n))
length_square_word F.Picture most n i = omega (arith, length-append (square_drawn most n i) (count_if_any n i), length_square most n i, length_if_any n i)

pub length_row_end : (i : ℕ) → length (row_end i) ≤ 1
length_row_end i = either (eqb (i % 8) 7) (text "\n") [] 1 (omega arith) (omega arith)

length_square_text : (form : Form) (most n i : ℕ) → length (square_shown form most n i) ≤ 260
unfolding square_shown
length_square_text form most n i =
    three (rank_before form i) (square_word form most n i) (row_end i) 66 193 1 (length_before form i) (length_square_word form most n i) (length_row_end i)

pub length_squares : (form : Form) (summary : List ℕ) (piece most i : ℕ) → length (squares_shown form summary piece most i) ≤ 260
length_squares form summary piece most i = length_square_text form most (count_on summary piece (drawn_square i)) i

pub length_piece : (k : ℕ) → length (piece_words k) ≤ 13
length_piece zero = omega arith
length_piece (suc zero) = omega arith
length_piece (suc (suc zero)) = omega arith
length_piece (suc (suc (suc zero))) = omega arith
length_piece (suc (suc (suc (suc zero)))) = omega arith
length_piece (suc (suc (suc (suc (suc zero))))) = omega arith
length_piece (suc (suc (suc (suc (suc (suc zero)))))) = omega arith
length_piece (suc (suc (suc (suc (suc (suc (suc zero))))))) = omega arith
length_piece (suc (suc (suc (suc (suc (suc (suc (suc zero)))))))) = omega arith
length_piece (suc (suc (suc (suc (suc (suc (suc (suc (suc zero))))))))) = omega arith
length_piece (suc (suc (suc (suc (suc (suc (suc (suc (suc (suc zero)))))))))) = omega arith
length_piece (suc (suc (suc (suc (suc (suc (suc (suc (suc (suc (suc k))))))))))) = omega arith

pub length_head : (form : Form) (piece total : ℕ) → length (board_head form piece total) ≤ 134
unfolding board_head
length_head form piece total =
    four (board_begin form piece) (piece_words piece) (decimal_of total) (words_end form) 93 13 20 8 (length_board_begin form piece) (length_piece piece)
    (length_20 total) (length_words form)

pub length_board : (form : Form) (summary : List ℕ) (piece : ℕ) → length (board_text form summary piece) ≤ 17074
unfolding board_text
length_board form summary piece =
    three (board_head form piece (total_of summary piece)) (laid 64 (squares_shown form summary piece (most_of summary piece)))
    (board_end form (most_of summary piece)) 134 16640 300
    (length_head form piece (total_of summary piece)) (length_laid 64 260 (squares_shown form summary piece (most_of summary piece))
    (length_squares form summary piece (most_of summary piece)))
    (length_board_end form (most_of summary piece))

pub length_page_head : (form : Form) (records points : ℕ) → length (page_head form records points) ≤ 1000
unfolding page_head
length_page_head form records points =
    omega (
      arith,
      four (page_begin form) (numbered (text "records ") records) (numbered (text " half points ") points) (words_end form) 410 28 33 8
          (length_begin form) (length_named (text "records ") records) (length_named (text " half points ") points) (length_words form),
    )

pub length_page : (form : Form) (summary : List ℕ) → length (page_of form summary) ≤ 205895
unfolding page_of
length_page form summary =
    three (page_head form (get_or summary 0 0) (get_or summary 1 0)) (laid 12 (board_text form summary)) (page_end form) 1000 204888 7
    (length_page_head form (get_or summary 0 0) (get_or summary 1 0)) (length_laid 12 17074 (board_text form summary) (length_board form summary))
    (length_page_end form)
