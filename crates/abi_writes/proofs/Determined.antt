-- The door is determined by its promise: two results that it allows are equal, and so is everything lent afterwards. Assumes nothing.
use mathlib.Core.Path.{◌≡◌}
use mathlib.Core.List.{List}
use Prim.Native.Nat.{ℕ}
use Rattle.refusal.proofs.Paper.{one}
use Rattle.abi_codes.specs.declared.Code.{Code}
use Rattle.abi_states.specs.declared.State.{State as Stated}
use Rattle.abi_writes.specs.Promises.{WritesPosition}

pub chess_write_line : (bitboards board : List ℕ) (state : Stated) (request half : ℕ) (out : List ℕ) (bytes : ℕ) (r s : Code) (a b : List ℕ) (m n : ℕ)
    → WritesPosition bitboards board state request half out bytes r a m → WritesPosition bitboards board state request half out bytes s b n → (r ≡ s)
    × (a ≡ b) × (m ≡ n)
chess_write_line bitboards board state request half out bytes r s a b m n p q = (one p.code q.code, one p.buffer q.buffer, one p.used q.used)
