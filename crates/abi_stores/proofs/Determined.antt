-- Each door is determined by its promise: two results, and two contents of each lent memory, that it allows are equal. Assumes nothing.
use mathlib.Core.Path.{◌≡◌}
use mathlib.Core.List.{List}
use Prim.Native.Nat.{ℕ}
use Rattle.refusal.proofs.Paper.{one}
use Rattle.abi_codes.specs.declared.Code.{Code}
use Rattle.abi_states.specs.declared.State.{State as Stated}
use Rattle.abi.specs.declared.lines.Line.{Line}
use Rattle.abi_stores.specs.Promises.{RecordRead, RecordWritten}

pub chess_read_record : (run : List ℕ) (number : ℕ) (bitboards board : List ℕ) (r q : Line) (bitboards₁ board₁ bitboards₂ board₂ : List ℕ)
    → RecordRead run number bitboards board r bitboards₁ board₁ → RecordRead run number bitboards board q bitboards₂ board₂
    → (r ≡ q) × (bitboards₁ ≡ bitboards₂) × (board₁ ≡ board₂)
chess_read_record run number bitboards board r q bitboards₁ board₁ bitboards₂ board₂ p o =
    (one p.said o.said, one p.boards o.boards, one p.bytes o.bytes)

pub chess_write_record : (bitboards board : List ℕ) (state : Stated) (half : ℕ) (place : List ℕ) (r q : Code) (place₁ place₂ : List ℕ)
    → RecordWritten bitboards board state half place r place₁ → RecordWritten bitboards board state half place q place₂ → (r ≡ q) × (place₁ ≡ place₂)
chess_write_record bitboards board state half place r q place₁ place₂ p o = (one p.code o.code, one p.bytes o.bytes)
