-- What is told of a state that a record says is that record: nothing is lost on the way. Assumes nothing.
use mathlib.Core.Path.{◌≡◌, refl, sym, ap}
use mathlib.Core.Bool.{Bool, true, false, cond}
use Prim.Native.Nat.{ℕ}
use lib.Dec.{eqb, eqb→eq}
use Rattle.laws.proofs.Truth.{true_T}
use Rattle.abi_states.specs.States.{passant_from, passant_number, state_taken, state_told}
use Rattle.abi_states.specs.declared.State.{State as Stated}
use Rattle.std.specs.Prelude.{None, Some}

number_back : (n : ℕ) → passant_number (passant_from n) ≡ n
number_back n = go (eqb n 255) refl
  where
    go : (t : Bool) → eqb n 255 ≡ t → passant_number (cond t None (Some n)) ≡ n
    go true e = sym (eqb→eq n 255 (true_T e))
    go false e = refl

pub record_back : (r : Stated) → state_told (state_taken r) ≡ r
unfolding state_taken
record_back r =
    ap (λ (n : ℕ). record {
      side = r.side;
      white_short = r.white_short;
      white_long = r.white_long;
      black_short = r.black_short;
      black_long = r.black_long;
      passant = n;
      halfmoves = r.halfmoves;
      moves = r.moves;
    }) (number_back r.passant)
