-- The public function is determined by its promise: two answers, and two contents of the lent memory, that it allows are equal.
-- Assumes nothing.
use mathlib.Core.Path.{◌≡◌}
use mathlib.Core.List.{List}
use Prim.Native.Nat.{ℕ}
use Rattle.refusal.proofs.Paper.{one}
use Rattle.store_rows.specs.declared.StoreSoFar.{StoreSoFar}
use Rattle.store_finish.specs.Promises.{FinishesStore}
use Rattle.std.specs.Prelude.{Result}
use Rattle.ledger_feed.specs.declared.Unwritten.{Unwritten}
use Rattle.ledger_feed.proofs.Determined.{came_same}

pub finish : (state : StoreSoFar) (out : List ℕ) (r s : Result ℕ Unwritten) (out₁ out₂ : List ℕ) → FinishesStore state out r out₁
    → FinishesStore state out s out₂ → (r ≡ s) × (out₁ ≡ out₂)
finish state out r s out₁ out₂ p q = (came_same r s (one p.answer q.answer), one p.rows q.rows)
