-- A question as oracle/README.md has it: a word, numbers and at times a position, one space between two parts. Definitions only.
use Rattle.std.specs.Prelude.{cond, ◌&&◌, List, [], ◌∷◌, ℕ, zero, suc, ◌+◌, ◌-◌, ◌*◌, ◌/◌, eqb, leb, length}
use Rattle.text_in.specs.Text.{space, slash, before, after}

-- ---- numbers
-- one digit more; a number that would pass 64 bits stays as it is
abbrev pub grown : ℕ → ℕ → ℕ
grown n digit = cond (leb n ((18446744073709551615 - digit) / 10)) (n * 10 + digit) n

-- a byte that is no digit changes nothing
abbrev pub with_digit : ℕ → ℕ → ℕ
with_digit n b = cond (leb 48 b && leb b 57) (grown n (b - 48)) n

-- "NUMBER is decimal": a number, and each byte of a text as one more digit
unfoldable pub digits : ℕ → List ℕ → ℕ
digits n [] = n
digits n (b ∷ s) = digits (with_digit n b) s

-- a number below zero stands as its 64 bits
abbrev pub negative_bits : ℕ → ℕ
negative_bits n = cond (eqb n 0) 0 (18446744073709551616 - n)

-- "at times with `-`": the number that a text begins with
unfoldable pub leading_number : List ℕ → ℕ
unfolding before digits
leading_number s = let n : ℕ = digits 0 (before space s) in cond (eqb (length (before 45 s)) 0) (negative_bits n) n

-- ---- parts
-- what comes after so many spaces
unfoldable pub later : ℕ → List ℕ → List ℕ
unfolding after
later zero s = s
later (suc n) s = later n (after space s)

-- the five parts after the word
unfoldable pub numbers_of_rule : List ℕ → List ℕ
unfolding later leading_number
numbers_of_rule question = leading_number (later 1 question) ∷ leading_number (later 2 question) ∷ leading_number (later 3 question)
    ∷ leading_number (later 4 question) ∷ leading_number (later 5 question) ∷ []

-- with a part before a text: the part where a slash comes next, else the text's own part with one
unfoldable pub slashed : List ℕ → List ℕ → List ℕ
slashed part [] = part
slashed part (b ∷ s) = let next : List ℕ = slashed (cond (eqb b space) s part) s in cond (eqb b slash) part next

-- "POSITION comes last": from the part with the first slash on
abbrev pub position_of : List ℕ → List ℕ
position_of question = slashed question question
