-- A piece's board in a summary (document 02, W-214): "for each of the twelve pieces how many stand on each square". The twelve are counted from 0 here, in
-- the order of their codes. Definitions only.
use Rattle.std.specs.Prelude.{ℕ, zero, suc, ◌+◌, ◌-◌, ◌*◌, ◌/◌, ◌%◌, ◌^◌, max, List, [], ◌∷◌, ◌++◌, slice_index, slice_index_or}
use Rattle.laws.specs.Sums.{sum_n}
use Rattle.text_in.specs.Text.{text}
use Rattle.store_counts.specs.Summary.{count_place}

-- how many of the piece stand on a square
abbrev pub count_on : List ℕ → ℕ → ℕ → ℕ
count_on summary piece square = slice_index summary (count_place (piece + 2) square)

-- on all squares: "Sums are 64 bits, wrapping where a summary isn't its store's."
abbrev pub total_of : List ℕ → ℕ → ℕ
total_of summary piece = sum_n 64 (count_on summary piece) % 2 ^ 64

-- the largest of f 0, f 1, .., n of them
unfoldable pub most_n : ℕ → (ℕ → ℕ) → ℕ
most_n zero f = 0
most_n (suc n) f = max (most_n n f) (f n)

-- on one square at most
abbrev pub most_of : List ℕ → ℕ → ℕ
most_of summary piece = most_n 64 (count_on summary piece)

-- the squares as a board is drawn: from rank 8 down, and from file a on
abbrev pub drawn_square : ℕ → ℕ
drawn_square i = 8 * (7 - i / 8) + i % 8

-- "piece" by name: the kinds in the order of their codes, White's before Black's
abbrev pub piece_words : ℕ → List ℕ
piece_words piece =
    slice_index_or
    (text "white pawn " ∷ text "black pawn " ∷ text "white knight " ∷ text "black knight " ∷ text "white king " ∷ text "black king "
    ∷ text "white bishop " ∷ text "black bishop " ∷ text "white rook " ∷ text "black rook " ∷ text "white queen " ∷ [])
    piece (text "black queen ")

-- texts one after another: f 0, f 1, .., n of them
unfoldable pub laid : ℕ → (ℕ → List ℕ) → List ℕ
laid zero f = []
laid (suc n) f = laid n f ++ f n
