-- The row of a loaded line with a score, told at the front of a text in one reading. Definitions only.
use Rattle.std.specs.Prelude.{Bool, cond, ◌&&◌, List, [], ◌∷◌, ℕ, zero, suc, ◌+◌, eqb, leb, length, drop, get_or}
use Prim.Native.Char.{code}
use Rattle.text_in.specs.Text.{text, space}
use Rattle.line_cut.specs.Lines.{lf}
use Rattle.line_tail.specs.Words.{is_figure, starts_with, decimal_from}
use Rattle.ledger_plain_row.specs.declared.Number.{Number}
use Rattle.ledger_plain_row.specs.declared.PlainRow.{PlainRow}

-- the figures at the front of a text, so many at most
unfoldable pub figures_of : ℕ → List ℕ → List ℕ
figures_of zero s = []
figures_of (suc k) [] = []
figures_of (suc k) (b ∷ s) = let rest : List ℕ = figures_of k s in cond (is_figure b) (b ∷ rest) []

-- the number at the front of a text: `0` alone, or up to 18 figures of which the first is none; nothing where there is no number
abbrev pub number_in : List ℕ → List ℕ
number_in s = cond (starts_with (code "0") s) (text "0") (figures_of 18 s)

abbrev pub number_read : List ℕ → Number
number_read t = record { size = length t; value = decimal_from 0 t }

-- the score at the front of a text with the LF behind it: how many bytes they have, 0 where there are none. −32768 is left out
abbrev pub sign_in : List ℕ → ℕ
sign_in s = cond (starts_with (code "-") s) 1 0

abbrev pub is_points : ℕ → Number → Bool
is_points sign n = leb 1 n.size && (leb sign n.value && leb n.value 32767)

unfoldable pub score_in : List ℕ → ℕ
score_in s =
    let figures : List ℕ = number_in (drop (sign_in s) s) in
    cond (is_points (sign_in s) (number_read figures) && starts_with lf (drop (length figures) (drop (sign_in s) s))) (sign_in s + length figures + 1) 0

-- half points between two spaces
abbrev pub is_half : ℕ → Bool
is_half b = leb (code "0") b && leb b (code "2")

abbrev pub half_between : List ℕ → Bool
half_between s = leb 3 (length s) && (eqb (get_or s 0 0) space && (is_half (get_or s 1 0) && eqb (get_or s 2 0) space))

-- the row by its number: how many bytes the number has, and the whole row; 0 and 0 where there is none
abbrev pub no_row : PlainRow
no_row = record { front = 0; size = 0 }

abbrev pub is_own : ℕ → Number → Bool
is_own number n = leb 1 n.size && eqb n.value number

unfoldable pub plain_in : ℕ → List ℕ → PlainRow
unfolding score_in
plain_in number s =
    let own : List ℕ = number_in s in
    let said : List ℕ = drop (length own) s in
    cond (is_own number (number_read own) && (half_between said && leb 1 (score_in (drop 3 said))))
    (record { front = length own; size = length own + 3 + score_in (drop 3 said) }) no_row
