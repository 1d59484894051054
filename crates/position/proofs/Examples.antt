-- Worked examples of the definitions, by computation. Assumes nothing.
use mathlib.Core.Path.{◌≡◌, refl}
use mathlib.Core.Bool.{true}
use mathlib.Core.List.{List, [], ◌∷◌}
use Prim.Native.Nat.{ℕ, ◌-◌}
use lib.ListN.{get_or, set, take}
use Rattle.laws.specs.Tests.{all_below}
use Rattle.refusal.specs.Answer.{Answer, given, refused}
use Rattle.bits.specs.Bitboard.{has, some, how_many, first_from}
use Rattle.position_boards.specs.Sound.{boards_with, of_colour}
use Rattle.position_boards.proofs.Examples.{start_boards, start_bytes}
use Rattle.position_odds.specs.Named.{lowest_wrong}
use Rattle.position_odds.specs.Odds.{or_odds}
use Rattle.position_further.specs.Rule.{home, at_home, just_passed}
use Rattle.position_further.specs.declared.Rights.{Rights}
use Rattle.position.specs.Checked.{of_side, checked}
use Rattle.position.specs.declared.State.{State}
use Rattle.std.specs.Prelude.{Option, None, Some}

-- ---- SHAPE, then OVERLAP, UNION, BYTEBOARD, then RIGHTS, PASSANT, COUNTER, then whatever comes after them
abbrev stated : List ℕ → List ℕ → State → Answer ℕ
stated bbs bytes state = checked bbs bytes state (given 11)

abbrev answer : List ℕ → List ℕ → ℕ → Answer ℕ
answer bbs bytes side = stated bbs bytes (of_side side)

-- White and Black to move; side 2; 13 bitboards; 63 bytes; a1 empty by its byte; the same with side 2
answers : List (Answer ℕ)
unfolding checked or_odds lowest_wrong first_from all_below boards_with of_colour how_many some has home at_home just_passed
answers =
    answer start_boards start_bytes 0 ∷ answer start_boards start_bytes 1 ∷ answer start_boards start_bytes 2 ∷ answer (take 13 start_boards) start_bytes 0
    ∷ answer start_boards (take 63 start_bytes) 0 ∷ answer start_boards (set start_bytes 0 0) 1 ∷ answer start_boards (set start_bytes 0 0) 2 ∷ []

answers_are : answers ≡ given 11 ∷ given 11 ∷ refused 1 [] ∷ refused 1 [] ∷ refused 1 [] ∷ refused 16 (0 ∷ []) ∷ refused 1 [] ∷ []
unfolding answers
answers_are = refl

-- White to move, every right
abbrev with : Option ℕ → ℕ → ℕ → State
with passant halfmoves moves = record { side = 0; rights = all; passant = passant; halfmoves = halfmoves; moves = moves }
  where
    all : Rights
    all = record { white_short = true; white_long = true; black_short = true; black_long = true }

-- every right, by the starting position, and by it without the rook h1 (board 10 and White's, and its byte); the square e6, which no pawn has passed;
-- counters 9999 and 9999, 10000 and 1, 0 and 0; no rook, a bad square and a bad counter; the square e6 with a bad counter; a1 at odds with all of that
further : List (Answer ℕ)
unfolding checked or_odds lowest_wrong first_from all_below boards_with of_colour how_many some has home at_home just_passed
further =
    stated start_boards start_bytes (with None 0 1) ∷ stated rookless (set start_bytes 7 0) (with None 0 1)
    ∷ stated start_boards start_bytes (with (Some 44) 0 1)
    ∷ stated start_boards start_bytes (with None 9999 9999) ∷ stated start_boards start_bytes (with None 10000 1)
    ∷ stated start_boards start_bytes (with None 0 0)
    ∷ stated rookless (set start_bytes 7 0) (with (Some 64) 0 0) ∷ stated start_boards start_bytes (with (Some 44) 0 0)
    ∷ stated start_boards (set start_bytes 0 0) (with (Some 64) 0 0) ∷ []
  where
    rookless : List ℕ
    rookless = set (set start_boards 10 1) 0 (get_or start_boards 0 0 - 128)

further_are : further ≡ given 11 ∷ refused 29 [] ∷ refused 30 [] ∷ given 11 ∷ refused 31 [] ∷ refused 31 [] ∷ refused 29 [] ∷ refused 30 []
    ∷ refused 16 (0 ∷ []) ∷ []
unfolding further
further_are = refl
