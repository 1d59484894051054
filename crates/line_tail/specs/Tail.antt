-- What stands after the ranks of a position field (document 02, W-213): a side, and on it no, two or four fields more. Definitions only.
use Rattle.std.specs.Prelude.{Bool, not, ◌||◌, ◌&&◌, List, ℕ}
use Rattle.refusal.specs.Answer.{Answer, given, or_refuse}
use Rattle.refusal.specs.declared.Refusal.TheVariants as R
use Rattle.position_further.specs.Rule.{at_home, just_passed, counters_fit}
use Rattle.position.specs.declared.State.{State}
use Rattle.line_tail.specs.Words.{nth_word, missing, rights_of, are_rights, passant_of, counter_of, counter_or}

-- "Two, four (EPD) or six (FEN) fields are taken": where the one of two is given, so is the other
abbrev pub both_given : List ℕ → List ℕ → Bool
both_given s t = missing s || not (missing t)

-- RIGHTS: no such letters, or no king and rook at home
unfoldable pub rights_fit : List ℕ → List ℕ → Bool
unfolding are_rights rights_of at_home
rights_fit bytes rights = are_rights rights && at_home bytes (rights_of rights)

-- PASSANT: "Three fields are refused as PASSANT"; no square, or not one that a pawn has just passed
unfoldable pub passant_fits : List ℕ → ℕ → List ℕ → List ℕ → Bool
unfolding passant_of just_passed
passant_fits bytes side rights passant = both_given rights passant && just_passed bytes side (passant_of passant)

-- COUNTER: "five or more than six as COUNTER"; no counters, or not within their bounds
unfoldable pub counters_fit_fields : List ℕ → List ℕ → List ℕ → Bool
unfolding counter_of
counters_fit_fields halfmoves moves more =
    both_given halfmoves moves && missing more && counters_fit (counter_or 0 halfmoves) (counter_or 1 moves)

-- "fields not given read as no rights, no square, counters 0 and 1"
unfoldable pub state_said : ℕ → List ℕ → List ℕ → List ℕ → List ℕ → State
unfolding rights_of passant_of counter_of
state_said side rights passant halfmoves moves = record {
  side = side;
  rights = rights_of rights;
  passant = passant_of passant;
  halfmoves = counter_or 0 halfmoves;
  moves = counter_or 1 moves;
}

-- "29 RIGHTS, 30 PASSANT, 31 COUNTER, after SIDE in a line": by the words after the side and a word that must not be there, on a board
abbrev pub or_words : {A : Type 0} → List ℕ → ℕ → List ℕ → List ℕ → List ℕ → List ℕ → List ℕ → Answer A → Answer A
or_words bytes side rights passant halfmoves moves more rest =
    or_refuse (rights_fit bytes rights) R.Rights
    (or_refuse (passant_fits bytes side rights passant) R.Passant (or_refuse (counters_fit_fields halfmoves moves more) R.Counter rest))

-- the same by what follows the ranks; the side is its first word, and was read before
abbrev pub or_tail : {A : Type 0} → List ℕ → ℕ → List ℕ → Answer A → Answer A
or_tail bytes side s rest = or_words bytes side (nth_word 1 s) (nth_word 2 s) (nth_word 3 s) (nth_word 4 s) (nth_word 5 s) rest

abbrev pub tail_state : ℕ → List ℕ → State
tail_state side s = state_said side (nth_word 1 s) (nth_word 2 s) (nth_word 3 s) (nth_word 4 s)

-- the state that follows the ranks
abbrev pub tail_of : List ℕ → ℕ → List ℕ → Answer State
tail_of bytes side s = or_tail bytes side s (given (tail_state side s))
