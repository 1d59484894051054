-- `abi_states::taken` meets its contract. Assumes nothing.
use mathlib.Core.Path.{ap}
use Rattle.abi_states.specs.States.{state_taken}
use Rattle.abi_states.proofs.taken.Goals as goal
use Rattle.std.specs.Prelude.{Option}
use Prim.Native.Nat.{ℕ}

pub returns : goal.returns
unfolding state_taken
returns c =
    let s = c.args.stated in
    ap (λ (p : Option ℕ). record {
      side = s.side;
      rights = record {
        white_short = s.white_short;
        white_long = s.white_long;
        black_short = s.black_short;
        black_long = s.black_long;
      };
      passant = p;
      halfmoves = s.halfmoves;
      moves = s.moves;
    }) c.passant-passant.ensures
