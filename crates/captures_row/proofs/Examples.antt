-- Worked examples of the definitions, by computation: the rows that a document or a page shows. Assumes nothing.
use mathlib.Core.Path.{◌≡◌, refl}
use mathlib.Core.List.{[], ◌∷◌}
use lib.IntN.{pos, negsuc}
use Rattle.text_in.specs.Text.{text}
use Rattle.text_out.specs.Text.{digits_up_to}
use Rattle.exchange_value.specs.Stop.{played_out, before}
use Rattle.captures_row.specs.Rows.{capture_row, stop_row, counts_row}

-- a1 is 0, e1 is 4, h8 is 63
captures :
    capture_row 1 4 3 100 ∷ capture_row 12 0 0 1013 ∷ capture_row 3 63 1 0 ∷ capture_row 4 7 2 304 ∷ capture_row 5 60 4 5 ∷ capture_row 6 59 5 10000 ∷ []
    ≡ text "1 e1 rook 100\n" ∷ text "12 a1 pawn 1013\n" ∷ text "3 h8 knight 0\n" ∷ text "4 h1 bishop 304\n" ∷ text "5 e8 queen 5\n"
    ∷ text "6 d8 king 10000\n" ∷ []
unfolding capture_row digits_up_to
captures = refl

stops :
    stop_row 1 (before 1) (pos 100) ∷ stop_row 2 played_out (negsuc 912) ∷ []
    ≡ text "1 stop 1 worth 100\n" ∷ text "2 played out worth -913\n" ∷ []
unfolding stop_row digits_up_to
stops = refl

last : counts_row 3 2 1 ≡ text "lines 3 told 2 refused 1\n"
unfolding counts_row digits_up_to
last = refl
