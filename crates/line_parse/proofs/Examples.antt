-- Worked examples of the definitions, by computation: document 01's lines, each refusal, each boundary. Assumes nothing.
use mathlib.Core.Path.{◌≡◌, refl}
use mathlib.Core.List.{List, [], ◌∷◌, ◌++◌, map}
use Prim.Native.Nat.{ℕ, ◌+◌, ◌*◌}
use Prim.Native.String.{String}
use lib.ListN.{length, replicate}
use Rattle.refusal.specs.Answer.{Answer, given, refused}
use Rattle.text_in.specs.Text.{text, every, holds, before, after, without, trim, place_in}
use Rattle.line_ranks.specs.Ranks.{are_ranks, stacked}
use Rattle.position.specs.Checked.{of_side}
use Rattle.line_tail.specs.Words.{nth_word}
use Rattle.line_tail.specs.Tail.{rights_fit, passant_fits, counters_fit_fields, state_said}
use Rattle.line_parse.specs.Line.{Line, fields_say, line_of}

said : List ℕ → Answer Line
unfolding line_of fields_say every holds before after without trim place_in are_ranks stacked nth_word rights_fit passant_fits counters_fit_fields state_said
said s = line_of s

-- the refusal's number, or 20 + 10·side + half points
short : Answer Line → ℕ
short (refused n v) = n
short (given l) = 20 + 10 * l.state.side + l.half

answers : List String → List ℕ
unfolding said short
answers lines = map (λ s. short (said (text s))) lines

-- ---- document 01's three lines
first : said (text "4k3/8/8/8/8/8/4P3/4K3 w - - 0 1;1-0") ≡ given (record {
  state = of_side 0;
  half = 2;
  board =
      0 ∷ 0 ∷ 0 ∷ 0 ∷ 6 ∷ 0 ∷ 0 ∷ 0
      ∷ 0 ∷ 0 ∷ 0 ∷ 0 ∷ 2 ∷ 0 ∷ 0 ∷ 0
      ∷ 0 ∷ 0 ∷ 0 ∷ 0 ∷ 0 ∷ 0 ∷ 0 ∷ 0
      ∷ 0 ∷ 0 ∷ 0 ∷ 0 ∷ 0 ∷ 0 ∷ 0 ∷ 0
      ∷ 0 ∷ 0 ∷ 0 ∷ 0 ∷ 0 ∷ 0 ∷ 0 ∷ 0
      ∷ 0 ∷ 0 ∷ 0 ∷ 0 ∷ 0 ∷ 0 ∷ 0 ∷ 0
      ∷ 0 ∷ 0 ∷ 0 ∷ 0 ∷ 0 ∷ 0 ∷ 0 ∷ 0
      ∷ 0 ∷ 0 ∷ 0 ∷ 0 ∷ 7 ∷ 0 ∷ 0 ∷ 0 ∷ [];
})
unfolding said
first = refl

second : said (text "8/8/8/8/8/8/8/8 w;1/2-1/2") ≡ given (record { state = of_side 0; half = 1; board = replicate 64 0 })
unfolding said
second = refl

third : said (text "4k3/8/8/8/8/8/4P3/4K3 b;1/2") ≡ refused 13 []
unfolding said
third = refl

-- ---- refused: no `;`; an empty line; ranks that are none; nothing before the `;`; a tab after the ranks
refusals :
    answers
    ("8/8/8/8/8/8/8/8 w 1-0" ∷ "" ∷ "8/8/8/8/8/8/8/7 w;1-0" ∷ ";1-0" ∷ "8/8/8/8/8/8/8/8\tw;1-0"
    ∷ "80/8/8/8/8/8/8/8 w;1-0" ∷ "9/8/8/8/8/8/8/8 w;1-0" ∷ "8/8/8/8/8/8/8/8p w;1-0" ∷ "8/8/8/8/8/8/8/8/8 w;1-0" ∷ [])
    ≡ 10 ∷ 10 ∷ 11 ∷ 11 ∷ 11 ∷ 11 ∷ 11 ∷ 11 ∷ 11 ∷ []
unfolding answers
refusals = refl

-- no side; `W`; a tab after the space; a tab or a CR after `w`; two letters
no_sides :
    answers
    ("8/8/8/8/8/8/8/8;1-0" ∷ "8/8/8/8/8/8/8/8 W;1-0" ∷ "8/8/8/8/8/8/8/8 \tw;1-0" ∷ "8/8/8/8/8/8/8/8 w\t-;1-0" ∷ "8/8/8/8/8/8/8/8 w\r-;1-0"
    ∷ "8/8/8/8/8/8/8/8 wb;1-0" ∷ [])
    ≡ 12 ∷ 12 ∷ 12 ∷ 12 ∷ 12 ∷ 12 ∷ []
unfolding answers
no_sides = refl

-- no result; one that is none; the right one in the third field
no_results : answers ("8/8/8/8/8/8/8/8 w;" ∷ "8/8/8/8/8/8/8/8 w;1-0." ∷ "8/8/8/8/8/8/8/8 w;*;1-0" ∷ []) ≡ 13 ∷ 13 ∷ 13 ∷ []
unfolding answers
no_results = refl

-- a byte that no line has, after the second `;` too
no_bytes : answers ("8/8/8/8/8/8/8/8 w;1-0\n" ∷ "8/8/8/8/8/8/8/8 w;1-0;\u{7f}" ∷ "8/8/8/8/8/8/8/8 w;1-0;~" ∷ []) ≡ 9 ∷ 9 ∷ 22 ∷ []
unfolding answers
no_bytes = refl

-- taken: each result; `b`; blanks at the ends of the fields, a CR at the end of the line; several spaces; a third field
takes :
    answers
    ("8/8/8/8/8/8/8/8 w;0-1" ∷ "8/8/8/8/8/8/8/8 b;1/2-1/2" ∷ "8/8/8/8/8/8/8/8 b;1-0" ∷ "\t 8/8/8/8/8/8/8/8 w\t;\t1-0 \r" ∷ "8/8/8/8/8/8/8/8   w;1-0;2-0;" ∷ [])
    ≡ 20 ∷ 31 ∷ 32 ∷ 22 ∷ 22 ∷ []
unfolding answers
takes = refl

-- W-203: a run written in two is PLACE, before a bad side
cut_runs : answers ("44/8/8/8/8/8/8/8 w;0-1" ∷ "8/8/8/8/53/8/8/8 W;x" ∷ []) ≡ 11 ∷ 11 ∷ []
unfolding answers
cut_runs = refl

-- W-213: two, four and six fields, any number of spaces between them
fields :
    answers
    ("8/8/8/8/8/8/8/8 w - -;1-0" ∷ "4k3/8/8/3pP3/8/8/8/4K2R w K d6;1-0" ∷ "4k3/8/8/3pP3/8/8/8/4K2R  w  K  d6  0  1;1-0"
    ∷ "rnbqkbnr/pppppppp/8/8/8/8/PPPPPPPP/RNBQKBNR w KQkq - 9999 9999;0-1" ∷ [])
    ≡ 22 ∷ 22 ∷ 22 ∷ 20 ∷ []
unfolding answers
fields = refl

-- RIGHTS: rights that are none, and three fields of them; an EPD's operation is COUNTER; PASSANT: three fields; COUNTER: five and seven, move 0
no_fields :
    answers
    ("8/8/8/8/8/8/8/8 w K -;1-0" ∷ "8/8/8/8/8/8/8/8 w x;1-0" ∷ "8/8/8/8/8/8/8/8 w - - bm Nf3;1-0" ∷ "8/8/8/8/8/8/8/8 w -;1-0" ∷ "8/8/8/8/8/8/8/8 w - - 0;1-0"
    ∷ "8/8/8/8/8/8/8/8 w - - 0 1 x;1-0" ∷ "8/8/8/8/8/8/8/8 w - - 0 0;1-0" ∷ [])
    ≡ 29 ∷ 29 ∷ 31 ∷ 30 ∷ 31 ∷ 31 ∷ 31 ∷ []
unfolding answers
no_fields = refl

-- the first in order: BYTE before FIELD, FIELD before PLACE, PLACE before SIDE and RESULT, SIDE before RIGHTS, RIGHTS before PASSANT, PASSANT before
-- COUNTER, COUNTER before RESULT
in_order :
    answers
    ("\n" ∷ "x" ∷ "x W;x" ∷ "8/8/8/8/8/8/8/8 W x;x" ∷ "8/8/8/8/8/8/8/8 w x x x;x" ∷ "8/8/8/8/8/8/8/8 w - x x;x" ∷ "8/8/8/8/8/8/8/8 w - - x;x" ∷ [])
    ≡ 9 ∷ 10 ∷ 11 ∷ 12 ∷ 29 ∷ 30 ∷ 31 ∷ []
unfolding answers
in_order = refl

-- 256 bytes are read and 257 are not, blanks counted, and LONG comes first
long : ℕ → ℕ → List ℕ
long spaces byte = text "8/8/8/8/8/8/8/8 w" ++ (replicate spaces 32 ++ (text ";1-0;" ++ (byte ∷ [])))

lengths : length (long 233 32) ∷ length (long 234 32) ∷ short (said (long 233 32)) ∷ short (said (long 234 32)) ∷ short (said (long 234 10))
    ∷ short (said (long 233 10)) ∷ [] ≡ 256 ∷ 257 ∷ 22 ∷ 8 ∷ 8 ∷ 9 ∷ []
unfolding said short long
lengths = refl
