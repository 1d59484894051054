-- What is asked of a row of a ledger that is joined to others. No number of a row is read: it is compared with the one that must stand there.
-- Definitions only.
use Rattle.std.specs.Prelude.{Bool, cond, ◌&&◌, ◌||◌, List, [], ◌∷◌, ℕ, ◌+◌, ◌-◌, ◌*◌, leb, ltb, length, take, drop}
use Rattle.laws.specs.Tests.{same}
use Rattle.text_in.specs.Text.{text}
use Rattle.text_out.specs.Text.{decimal_of}
use Rattle.ledger_row.specs.Row.{spaced}
use Rattle.ledger_whole.specs.Whole.{ends_in_lf}

abbrev pub begins_with : List ℕ → List ℕ → Bool
begins_with front row = same (take (length front) row) front

-- ---- a number as a ledger spells it: what the text comes to, spelled, is the text
-- what digits come to; from 100000 on no further one is taken, since no such number of a row is as large
abbrev pub digit_added : ℕ → ℕ → ℕ
digit_added n b = cond (ltb n 100000) (n * 10 + (b - 48)) n

unfoldable pub comes_to : ℕ → List ℕ → ℕ
comes_to n [] = n
comes_to n (b ∷ s) = comes_to (digit_added n b) s

abbrev pub spells : List ℕ → ℕ → Bool
spells s n = same s (decimal_of n)

abbrev pub is_number : ℕ → ℕ → List ℕ → Bool
is_number least most s = leb least (comes_to 0 s) && (leb (comes_to 0 s) most && spells s (comes_to 0 s))

-- ---- "the score for the side to move or `won`, `lost`, `drawn`, `over`": a score has 16 bits
abbrev pub is_score : List ℕ → Bool
is_score s = cond (begins_with (text "-") s) (is_number 1 32768 (drop 1 s)) (is_number 0 32767 s)

abbrev pub is_word : List ℕ → Bool
is_word s = same s (text "won") || (same s (text "lost") || (same s (text "drawn") || same s (text "over")))

abbrev pub is_shown : List ℕ → Bool
is_shown s = is_word s || is_score s

-- ---- what stands behind the row's number, up to the LF
-- "`refused` and the refusal's number": no refusal's number has three digits, and none is 0
abbrev pub says_refused : List ℕ → Bool
says_refused rest = begins_with (text "refused ") rest && is_number 1 99 (drop 8 rest)

abbrev pub has_half : List ℕ → Bool
has_half rest = begins_with (text "0 ") rest || (begins_with (text "1 ") rest || begins_with (text "2 ") rest)

-- "line number, half points, then the score .."
abbrev pub says_loaded : List ℕ → Bool
says_loaded rest = has_half rest && is_shown (drop 2 rest)

-- ---- the row
-- the row behind its number and the space
abbrev pub behind_number : ℕ → List ℕ → List ℕ
behind_number number row = drop (length (spaced number)) row

-- the row without its LF
abbrev pub without_lf : List ℕ → List ℕ
without_lf row = take (length row - 1) row

-- what a row says behind its number
abbrev pub after_number : ℕ → List ℕ → List ℕ
after_number number row = behind_number number (without_lf row)

-- a row of a line by its number: 32 bytes at most, and LF at its end
abbrev pub is_row : ℕ → List ℕ → Bool
is_row number row = leb (length row) 32 && (ends_in_lf row && (begins_with (spaced number) row
    && (says_refused (after_number number row) || says_loaded (after_number number row))))
