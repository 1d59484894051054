-- The words of a text, and what a word may say: castling rights, a square, a counter (document 02, W-213; the letters and names as the PGN standard's FEN
-- has them). Definitions only.
use Rattle.std.specs.Prelude.{Bool, false, cond, not, ◌||◌, ◌&&◌, List, [], ◌∷◌, ℕ, zero, suc, ◌+◌, ◌*◌, ◌-◌, eqb, leb, length, get_or, Option, None, Some}
use Prim.Native.Char.{code}
use Rattle.laws.specs.Tests.{same}
use Rattle.chess.specs.Named.{square_of}
use Rattle.position_further.specs.declared.Rights.{Rights}
use Rattle.text_in.specs.Text.{text, space, is_space, every, before, after, without}

-- ---- words: parted by "one space or more"
-- the first word, after the spaces before it
abbrev pub word_of : List ℕ → List ℕ
word_of s = before space (without is_space s)

abbrev pub after_word : List ℕ → List ℕ
after_word s = after space (without is_space s)

-- the word of a number, from 0; the empty one past the last
unfoldable pub nth_word : ℕ → List ℕ → List ℕ
unfolding before after without
nth_word zero s = word_of s
nth_word (suc n) s = nth_word n (after_word s)

-- a field that is not given is an empty word
abbrev pub missing : List ℕ → Bool
missing s = eqb (length s) 0

-- ---- "rights as `-` or letters in the order KQkq"
-- the letter stands at the front
abbrev pub starts_with : ℕ → List ℕ → Bool
starts_with letter [] = false
starts_with letter (b ∷ s) = eqb b letter

-- what is left when it is taken off there
abbrev pub taken_off : ℕ → List ℕ → List ℕ
taken_off letter [] = []
taken_off letter (b ∷ s) = cond (eqb b letter) s (b ∷ s)

-- what is left of a word without a K at the front, then without a Q, then without a k
abbrev pub after_k : List ℕ → List ℕ
after_k s = taken_off (code "K") s

abbrev pub after_kq : List ℕ → List ℕ
after_kq s = taken_off (code "Q") (after_k s)

abbrev pub after_kqk : List ℕ → List ℕ
after_kqk s = taken_off (code "k") (after_kq s)

-- the rights whose letters stand there; "fields not given read as no rights"
unfoldable pub rights_of : List ℕ → Rights
rights_of s = record {
  white_short = starts_with (code "K") s;
  white_long = starts_with (code "Q") (after_k s);
  black_short = starts_with (code "k") (after_kq s);
  black_long = starts_with (code "q") (after_kqk s);
}

-- and nothing else does
unfoldable pub are_rights : List ℕ → Bool
are_rights s = same s (text "-") || missing (taken_off (code "q") (after_kqk s))

-- ---- the en passant square: `-`, or a file and a rank; "fields not given read as .. no square"
-- 64, which is no square, for a word that is none
abbrev pub named_square : List ℕ → ℕ
named_square s = cond (eqb (length s) 2) (square_of (get_or s 0 0) (get_or s 1 0)) 64

unfoldable pub passant_of : List ℕ → Option ℕ
passant_of s = cond (missing s || same s (text "-")) None (Some (named_square s))

-- ---- "counters in decimal without leading zeros, 0 to 9999 and 1 to 9999"
abbrev pub is_figure : ℕ → Bool
is_figure b = leb (code "0") b && leb b (code "9")

-- figures read from the left, after those that made n
unfoldable pub decimal_from : ℕ → List ℕ → ℕ
decimal_from n [] = n
decimal_from n (b ∷ s) = decimal_from (10 * n + (b - code "0")) s

-- one figure to four, the first of several no 0
abbrev pub is_counter : List ℕ → Bool
is_counter s = every is_figure s && (leb 1 (length s) && leb (length s) 4) && (eqb (length s) 1 || not (starts_with (code "0") s))

-- 10000, which is no counter, for a word that is none
unfoldable pub counter_of : List ℕ → ℕ
unfolding every decimal_from
counter_of s = cond (is_counter s) (decimal_from 0 s) 10000

-- the counter, or what one that is not given reads as
abbrev pub counter_or : ℕ → List ℕ → ℕ
counter_or otherwise s = cond (missing s) otherwise (counter_of s)
