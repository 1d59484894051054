-- Worked examples of the definitions, by computation. Assumes nothing.
use mathlib.Core.Path.{◌≡◌, refl}
use mathlib.Core.Bool.{Bool, cond}
use mathlib.Core.List.{List, [], ◌∷◌, map}
use Prim.Native.Nat.{ℕ, ◌+◌}
use Prim.Native.String.{String}
use lib.ListN.{replicate, set}
use Rattle.refusal.specs.Answer.{Answer, given, refused}
use Rattle.position_further.specs.Rule.{home, at_home, just_passed}
use Rattle.position_further.specs.declared.Rights.{Rights}
use Rattle.position.specs.declared.State.{State}
use Rattle.text_in.specs.Text.{text, every, before, after, without}
use Rattle.line_tail.specs.Words.{nth_word, rights_of, are_rights, named_square, passant_of, decimal_from, counter_of}
use Rattle.line_tail.specs.Tail.{rights_fit, passant_fits, counters_fit_fields, state_said, tail_of}

-- a right as a binary digit: K 1, Q 2, k 4, q 8
digit : Bool → ℕ → ℕ
digit t n = cond t n 0

numbers : Rights → ℕ
unfolding digit
numbers r = digit r.white_short 1 + digit r.white_long 2 + digit r.black_short 4 + digit r.black_long 8

rights : String → List ℕ
unfolding rights_of are_rights numbers
rights s = cond (are_rights (text s)) (numbers (rights_of (text s)) ∷ []) []

-- every text that names rights, the empty one among them
sixteen :
    map rights
    ("-" ∷ "K" ∷ "Q" ∷ "KQ" ∷ "k" ∷ "Kk" ∷ "Qk" ∷ "KQk" ∷ "q" ∷ "Kq" ∷ "Qq" ∷ "KQq" ∷ "kq" ∷ "Kkq" ∷ "Qkq" ∷ "KQkq" ∷ "" ∷ [])
    ≡ (0 ∷ []) ∷ (1 ∷ []) ∷ (2 ∷ []) ∷ (3 ∷ []) ∷ (4 ∷ []) ∷ (5 ∷ []) ∷ (6 ∷ []) ∷ (7 ∷ []) ∷ (8 ∷ [])
    ∷ (9 ∷ []) ∷ (10 ∷ []) ∷ (11 ∷ []) ∷ (12 ∷ []) ∷ (13 ∷ []) ∷ (14 ∷ []) ∷ (15 ∷ []) ∷ (0 ∷ []) ∷ []
unfolding rights
sixteen = refl

-- out of order, twice, another letter, a dash beside a letter
no_rights_holds : map rights ("QK" ∷ "KK" ∷ "KQkqK" ∷ "A" ∷ "K-" ∷ "--" ∷ "KQ\t" ∷ []) ≡ [] ∷ [] ∷ [] ∷ [] ∷ [] ∷ [] ∷ [] ∷ []
unfolding rights
no_rights_holds = refl

squares : map (λ s. named_square (text s)) ("a1" ∷ "h8" ∷ "e3" ∷ "d6" ∷ "i3" ∷ "a9" ∷ "a0" ∷ "A3" ∷ "e" ∷ "e3x" ∷ "3e" ∷ [])
    ≡ 0 ∷ 63 ∷ 20 ∷ 43 ∷ 64 ∷ 64 ∷ 64 ∷ 64 ∷ 64 ∷ 64 ∷ 64 ∷ []
squares = refl

counters : map (λ s. counter_of (text s)) ("0" ∷ "1" ∷ "10" ∷ "9999" ∷ "00" ∷ "01" ∷ "10000" ∷ "" ∷ "1a" ∷ "-1" ∷ "+1" ∷ [])
    ≡ 0 ∷ 1 ∷ 10 ∷ 9999 ∷ 10000 ∷ 10000 ∷ 10000 ∷ 10000 ∷ 10000 ∷ 10000 ∷ 10000 ∷ []
unfolding counter_of every decimal_from
counters = refl

-- ---- the whole rest, on a board with white king e1, rook h1, pawn e4 and black pawn d5: the refusal's number, or 0
abbrev board : List ℕ
board = set (set (set (set (replicate 64 0) 4 6) 7 10) 28 2) 35 3

abbrev short : Answer State → ℕ
short (given s) = 0
short (refused n v) = n

said : ℕ → String → ℕ
unfolding rights_fit passant_fits counters_fit_fields state_said nth_word before after without are_rights rights_of passant_of counter_of every decimal_from home
    at_home just_passed
said side s = short (tail_of board side (text s))

-- two, four and six fields, any number of spaces between them
taken : said 0 "w" ∷ said 0 "w K d6" ∷ said 1 "b - e3" ∷ said 0 "w K d6 0 1" ∷ said 0 "w  -   -    9999  9999" ∷ [] ≡ 0 ∷ 0 ∷ 0 ∷ 0 ∷ 0 ∷ []
unfolding said
taken = refl

-- no rook on a1; three fields, and then RIGHTS comes first; the square of the other side's pawn; a square that is not empty; five and seven fields;
-- move 0; seven with a
-- bad square; a tab for the side's space, which leaves three; a tab inside the rights
turned : said 0 "w Q -" ∷ said 0 "w K" ∷ said 0 "w Q" ∷ said 1 "b - d6" ∷ said 0 "w - e4" ∷ said 0 "w - - 0" ∷ said 0 "w - - 0 1 x"
    ∷ said 0 "w - - 0 0" ∷ said 0 "w - z9 0 1 x" ∷ said 0 "w\t- -" ∷ said 0 "w -\t-" ∷ []
    ≡ 29 ∷ 30 ∷ 29 ∷ 30 ∷ 30 ∷ 31 ∷ 31 ∷ 31 ∷ 30 ∷ 30 ∷ 29 ∷ []
unfolding said
turned = refl
