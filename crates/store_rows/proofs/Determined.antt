-- Each public function is determined by its promise: two answers, and two contents of each lent memory, that it allows are equal.
-- Assumes nothing.
use mathlib.Core.Path.{◌≡◌}
use mathlib.Core.List.{List}
use Prim.Native.Nat.{ℕ}
use Rattle.refusal.proofs.Paper.{one}
use Rattle.store_rows.specs.Promises.{BeginsStore, FeedsStore}
use Rattle.store_rows.specs.declared.StoreSoFar.{StoreSoFar}
use Rattle.std.specs.Prelude.{Result}
use Rattle.ledger_feed.specs.declared.Unwritten.{Unwritten}
use Rattle.ledger_feed.proofs.Determined.{came_same}

-- ---- the functions
pub start : (r s : StoreSoFar) → BeginsStore r → BeginsStore s → r ≡ s
start r s p q = one p q

pub feed : (state : StoreSoFar) (piece chunk out : List ℕ) (r s : Result (StoreSoFar × ℕ) Unwritten) (piece₁ out₁ piece₂ out₂ : List ℕ)
    → FeedsStore state piece chunk out r piece₁ out₁ → FeedsStore state piece chunk out s piece₂ out₂ → (r ≡ s) × (piece₁ ≡ piece₂) × (out₁ ≡ out₂)
feed state piece chunk out r s piece₁ out₁ piece₂ out₂ p q =
    (came_same r s (one p.answer q.answer), one p.kept q.kept, one p.rows q.rows)
