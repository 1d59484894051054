-- The door is determined by its promise: two results that it allows are equal, and so is everything lent afterwards. Assumes nothing.
use mathlib.Core.Path.{◌≡◌}
use mathlib.Core.List.{List}
use Prim.Native.Nat.{ℕ}
use Rattle.refusal.proofs.Paper.{one}
use Rattle.abi_captures.specs.Promises.{TellsCaptures}
use Rattle.abi_codes.specs.declared.Code.{Code}
use Rattle.abi_states.specs.declared.State.{State as Stated}

pub captures : (number : ℕ) (kinds bitboards board : List ℕ) (state : Stated) (from to : ℕ) (squares by taken : List ℕ) (count stop : ℕ) (r s : Code)
    (a b : List ℕ) (c d : List ℕ) (e f : List ℕ) (g h i j : ℕ)
    → TellsCaptures number kinds bitboards board state from to squares by taken count stop r a c e g i
    → TellsCaptures number kinds bitboards board state from to squares by taken count stop s b d f h j
    → (r ≡ s) × (a ≡ b) × (c ≡ d) × (e ≡ f) × (g ≡ h) × (i ≡ j)
captures number kinds bitboards board state from to squares by taken count stop r s a b c d e f g h i j p q = (
  one p.code q.code,
  one p.made_from_holds q.made_from_holds,
  one p.made_by q.made_by,
  one p.takes q.takes,
  one p.counted q.counted,
  one p.stops q.stops,
)
