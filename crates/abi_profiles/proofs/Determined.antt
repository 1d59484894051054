-- Each door is determined by its promise: two results that it allows are equal, and so is everything lent afterwards. Assumes nothing.
use mathlib.Core.Path.{◌≡◌}
use mathlib.Core.List.{List}
use Prim.Native.Nat.{ℕ}
use Rattle.refusal.proofs.Paper.{one}
use Rattle.abi_codes.specs.declared.Code.{Code}
use Rattle.abi_states.specs.declared.State.{State as Stated}
use Rattle.abi.specs.declared.lines.Line.{Line}
use Rattle.abi_profiles.specs.Promises.{JudgesDoor, ReadsDoor}

pub chess_profile : (bitboards board : List ℕ) (state : Stated) (r s : Code) → JudgesDoor bitboards board state r → JudgesDoor bitboards board state s → r ≡ s
chess_profile bitboards board state r s p q = one p q

pub chess_read_profile : (line bitboards board : List ℕ) (r s : Line) (b b' y y' : List ℕ) → ReadsDoor line bitboards board r b y
    → ReadsDoor line bitboards board s b' y' → (r ≡ s) × (b ≡ b') × (y ≡ y')
chess_read_profile line bitboards board r s b b' y y' p q = (one p.said q.said, one p.boards q.boards, one p.bytes q.bytes)
