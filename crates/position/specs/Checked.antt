-- A position's shape, the consistency rule, and what comes before every answer about a position. Definitions only.
use Rattle.std.specs.Prelude.{◌≡◌, Bool, true, false, ◌&&◌, List, ℕ, eqb, ltb, length, None}
use Rattle.refusal.specs.Answer.{Answer, or_refuse}
use Rattle.refusal.specs.declared.Refusal.TheVariants as R
use Rattle.position_consistent.specs.Consistent.{consistent}
use Rattle.position_odds.specs.Odds.{or_odds}
use Rattle.position_further.specs.Rule.{at_home, just_passed, counters_fit}
use Rattle.position_further.specs.declared.Rights.{Rights}
use Rattle.position.specs.declared.State.{State}

-- "fields not given read as no rights, no square, counters 0 and 1"
abbrev pub no_rights : Rights
no_rights = record { white_short = false; white_long = false; black_short = false; black_long = false }

-- "a side" to move, and nothing else given
abbrev pub of_side : ℕ → State
of_side side = record { side = side; rights = no_rights; passant = None; halfmoves = 0; moves = 1 }

-- SHAPE: "not 14 bitboards, 64 bytes ..; side .. not 0 or 1"
abbrev pub shaped : List ℕ → List ℕ → State → Bool
shaped bbs bytes state = eqb (length bbs) 14 && eqb (length bytes) 64 && ltb state.side 2

-- what the rule asks beyond the pieces, by the board bytes: "29 RIGHTS, 30 PASSANT, 31 COUNTER"
abbrev pub or_further : {A : Type 0} → List ℕ → State → Answer A → Answer A
or_further bytes state rest =
    or_refuse (at_home bytes state.rights) R.Rights
    (or_refuse (just_passed bytes state.side state.passant) R.Passant (or_refuse (counters_fit state.halfmoves state.moves) R.Counter rest))

-- what comes before every answer about a position: SHAPE, then "14 OVERLAP, 15 UNION, 16 BYTEBOARD replace 2 in its place in each order", then 29 to 31,
-- "after the W-201 numbers"
unfoldable pub checked : {A : Type 0} → List ℕ → List ℕ → State → Answer A → Answer A
checked bbs bytes state rest = or_refuse (shaped bbs bytes state) R.Shape (or_odds bbs bytes (or_further bytes state rest))

-- a position that every test lets pass: "the consistency rule" with what W-213 adds to it
pub record Fitting (bbs bytes : List ℕ) (state : State) : Type 0 where
  pub shape : shaped bbs bytes state ≡ true
  pub pieces : consistent bbs bytes ≡ true
  pub rights : at_home bytes state.rights ≡ true
  pub passant : just_passed bytes state.side state.passant ≡ true
  pub counters : counters_fit state.halfmoves state.moves ≡ true
