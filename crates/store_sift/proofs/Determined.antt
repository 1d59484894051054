-- The public function is determined by its promise: two answers, and two contents of each lent memory, that it allows are equal. Assumes nothing.
use mathlib.Core.Path.{◌≡◌}
use mathlib.Core.List.{List}
use Prim.Native.Nat.{ℕ}
use Rattle.refusal.proofs.Paper.{one}
use Rattle.store_rows.specs.declared.StoreSoFar.{StoreSoFar}
use Rattle.sift_form.specs.declared.Form.{Form}
use Rattle.store_sift.specs.Promises.{SiftsStore}
use Rattle.std.specs.Prelude.{Result}
use Rattle.ledger_feed.specs.declared.Unwritten.{Unwritten}
use Rattle.ledger_feed.proofs.Determined.{came_same}

pub feed : (state : StoreSoFar) (form : Form) (piece chunk made rows : List ℕ) (r s : Result (StoreSoFar × ℕ × ℕ) Unwritten) (piece₁ made₁ rows₁ piece₂ made₂ rows₂ : List ℕ)
    → SiftsStore state form piece chunk made rows r piece₁ made₁ rows₁ → SiftsStore state form piece chunk made rows s piece₂ made₂ rows₂
    → (r ≡ s) × (piece₁ ≡ piece₂) × (made₁ ≡ made₂) × (rows₁ ≡ rows₂)
feed state form piece chunk made rows r s piece₁ made₁ rows₁ piece₂ made₂ rows₂ p q = (
  came_same r s (one p.answer q.answer),
  one p.kept q.kept,
  one p.making q.making,
  one p.rowing q.rowing,
)
