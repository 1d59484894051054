-- A position's state as a record for C. Definitions only.
use Rattle.std.specs.Prelude.{cond, ℕ, eqb, Option, None, Some}
use Rattle.position.specs.declared.State.{State}
use Rattle.abi_states.specs.declared.State.{State as Stated}

-- 255, which no square has, where there is no en passant square
abbrev pub passant_from : ℕ → Option ℕ
passant_from n = cond (eqb n 255) None (Some n)

abbrev pub passant_number : Option ℕ → ℕ
passant_number None = 255
passant_number (Some s) = s

-- the state that a record says
unfoldable pub state_taken : Stated → State
state_taken r = record {
  side = r.side;
  rights = record {
    white_short = r.white_short;
    white_long = r.white_long;
    black_short = r.black_short;
    black_long = r.black_long;
  };
  passant = passant_from r.passant;
  halfmoves = r.halfmoves;
  moves = r.moves;
}

-- the record of a state
abbrev pub state_told : State → Stated
state_told s = record {
  side = s.side;
  white_short = s.rights.white_short;
  white_long = s.rights.white_long;
  black_short = s.rights.black_short;
  black_long = s.rights.black_long;
  passant = passant_number s.passant;
  halfmoves = s.halfmoves;
  moves = s.moves;
}
