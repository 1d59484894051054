-- Each door is determined by its promise: two results, and two contents of each lent memory, that it allows are equal. Assumes nothing.
use mathlib.Core.Path.{◌≡◌}
use mathlib.Core.List.{List}
use Prim.Native.Nat.{ℕ}
use Rattle.refusal.proofs.Paper.{one}
use Rattle.abi_codes.specs.declared.Code.{Code}
use Rattle.abi_states.specs.declared.State.{State as Stated}
use Rattle.abi_summaries.specs.Promises.{RecordAdded, RecordReplaced}

pub chess_add_record : (bitboards board : List ℕ) (state : Stated) (half : ℕ) (run summary : List ℕ) (r q : Code) (run₁ summary₁ run₂ summary₂ : List ℕ)
    → RecordAdded bitboards board state half run summary r run₁ summary₁ → RecordAdded bitboards board state half run summary q run₂ summary₂
    → (r ≡ q) × (run₁ ≡ run₂) × (summary₁ ≡ summary₂)
chess_add_record bitboards board state half run summary r q run₁ summary₁ run₂ summary₂ p o =
    (one p.code o.code, one p.bytes o.bytes, one p.counts o.counts)

pub chess_replace_record : (bitboards board : List ℕ) (state : Stated) (half number : ℕ) (run summary : List ℕ) (r q : Code)
    (run₁ summary₁ run₂ summary₂ : List ℕ)
    → RecordReplaced bitboards board state half number run summary r run₁ summary₁
    → RecordReplaced bitboards board state half number run summary q run₂ summary₂
    → (r ≡ q) × (run₁ ≡ run₂) × (summary₁ ≡ summary₂)
chess_replace_record bitboards board state half number run summary r q run₁ summary₁ run₂ summary₂ p o =
    (one p.code o.code, one p.bytes o.bytes, one p.counts o.counts)
