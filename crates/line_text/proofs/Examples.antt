-- Worked examples of a board's text, by computation. Assumes nothing.
use mathlib.Core.Path.{◌≡◌, refl}
use mathlib.Core.Bool.{Bool, true, false}
use mathlib.Core.List.{[], ◌∷◌, map}
use lib.ListN.{length, replicate}
use Rattle.text_in.specs.Text.{text}
use Rattle.text_out.specs.Text.{digits_up_to}
use Rattle.position_further.specs.declared.Rights.{Rights}
use Rattle.position.specs.Checked.{no_rights, of_side}
use Rattle.position.specs.declared.State.{State}
use Rattle.line_ranks.specs.Ranks.{stacked}
use Rattle.line_text.specs.Spelt.{letter_of, spelt, ranks_text}
use Rattle.line_text.specs.Words.{rights_text, passant_text, counter_text}
use Rattle.line_text.specs.Lines.{position_text, line_text}
use Rattle.std.specs.Prelude.{None, Some}

abbrev rights_with : Bool → Bool → Bool → Bool → Rights
rights_with a b c d = record { white_short = a; white_long = b; black_short = c; black_long = d }

-- a rank with runs at its beginning, between letters, and at its end; an empty one
ranks : spelt 0 (0 ∷ 0 ∷ 3 ∷ 0 ∷ 7 ∷ 13 ∷ 0 ∷ 0 ∷ []) ∷ spelt 0 (0 ∷ 0 ∷ 0 ∷ 0 ∷ 0 ∷ 0 ∷ 0 ∷ 0 ∷ []) ∷ [] ≡ text "2p1kq2" ∷ text "8" ∷ []
unfolding spelt
ranks = refl

-- a board and its text: the ranks of `44` spell the same board, and are not its text
board : ranks_text 7 (stacked 7 (text "44/8/8/1p11p3/8/8/P7/4K2R")) ≡ text "8/8/8/1p2p3/8/8/P7/4K2R"
unfolding ranks_text stacked
board = refl

-- the letters in 01's order of them, White's first
letters : map letter_of (2 ∷ 4 ∷ 8 ∷ 10 ∷ 12 ∷ 6 ∷ 3 ∷ 5 ∷ 9 ∷ 11 ∷ 13 ∷ 7 ∷ []) ≡ text "PNBRQKpnbrqk"
unfolding letter_of
letters = refl

-- rights that there are in their order, or `-`; squares by file and rank; counters from the least to the greatest, and none past it
rights : rights_text (rights_with true true true true) ∷ rights_text (rights_with false true true false) ∷ rights_text no_rights ∷ []
    ≡ text "KQkq" ∷ text "Qk" ∷ text "-" ∷ []
rights = refl

squares : map passant_text (None ∷ Some 16 ∷ Some 47 ∷ []) ≡ text "-" ∷ text "a3" ∷ text "h6" ∷ []
squares = refl

counters : map counter_text (0 ∷ 10 ∷ 9999 ∷ 10000 ∷ []) ≡ text "0" ∷ text "10" ∷ text "9999" ∷ [] ∷ []
unfolding digits_up_to
counters = refl

-- the starting position, with White to move and won; a bare board; a pawn that has just passed e3; the longest text with a result
-- and without
abbrev castling : State
castling = record { side = 0; rights = rights_with true true true true; passant = None; halfmoves = 0; moves = 1 }

start : line_text (stacked 7 (text "rnbqkbnr/pppppppp/8/8/8/8/PPPPPPPP/RNBQKBNR")) castling 2
    ≡ text "rnbqkbnr/pppppppp/8/8/8/8/PPPPPPPP/RNBQKBNR w KQkq - 0 1;1-0"
unfolding stacked ranks_text digits_up_to
start = refl

bare_board : line_text (replicate 64 0) (of_side 1) 1 ≡ text "8/8/8/8/8/8/8/8 b - - 0 1;1/2-1/2"
unfolding ranks_text digits_up_to
bare_board = refl

abbrev passing : State
passing = record { side = 1; rights = rights_with true false false true; passant = Some 20; halfmoves = 0; moves = 12 }

passed : position_text (stacked 7 (text "r3k3/8/8/8/4P3/8/8/4K2R")) passing ≡ text "r3k3/8/8/8/4P3/8/8/4K2R b Kq e3 0 12"
unfolding stacked ranks_text digits_up_to
passed = refl

abbrev full : State
full = record { side = 1; rights = rights_with true true true true; passant = Some 20; halfmoves = 9999; moves = 9999 }

longest : length (position_text (replicate 64 2) full) ∷ length (line_text (replicate 64 2) full 1) ∷ [] ≡ 91 ∷ 99 ∷ []
unfolding ranks_text digits_up_to
longest = refl
