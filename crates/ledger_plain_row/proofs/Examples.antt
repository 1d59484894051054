-- Rows that are told and texts that are not, worked out. Assumes nothing.
use mathlib.Core.Path.{◌≡◌, refl}
use Rattle.text_in.specs.Text.{text}
use Rattle.line_tail.specs.Words.{decimal_from}
use Rattle.ledger_plain_row.specs.Plain.{figures_of, score_in, plain_in, no_row}

-- with what follows it, and at the end of a text
told : (plain_in 12 (text "12 1 -53\n13 0 7\n") ≡ record { front = 2; size = 9 }) × (plain_in 7 (text "7 0 0\n") ≡ record { front = 1; size = 6 })
unfolding plain_in score_in figures_of decimal_from
told = (refl, refl)

-- another number, a zero in front, minus zero, a score past 16 bits, a word, no LF
not_told : (plain_in 11 (text "12 1 -53\n") ≡ no_row) × (plain_in 7 (text "07 1 5\n") ≡ no_row) × (plain_in 7 (text "7 1 -0\n") ≡ no_row)
    × (plain_in 7 (text "7 1 32768\n") ≡ no_row) × (plain_in 7 (text "7 1 won\n") ≡ no_row) × (plain_in 7 (text "7 1 5") ≡ no_row)
unfolding plain_in score_in figures_of decimal_from
not_told = (refl, refl, refl, refl, refl, refl)
