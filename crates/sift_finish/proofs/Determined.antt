-- The public function is determined by its promise: two answers, and two contents of each lent buffer, that it allows are equal. Assumes nothing.
use mathlib.Core.Path.{◌≡◌}
use mathlib.Core.List.{List}
use Prim.Native.Nat.{ℕ}
use Rattle.refusal.proofs.Paper.{one}
use Rattle.ledger_feed.specs.declared.SoFar.{SoFar}
use Rattle.sift_form.specs.declared.Form.{Form}
use Rattle.sift_finish.specs.Last.{FinishesSifted}
use Rattle.std.specs.Prelude.{Result}
use Rattle.ledger_feed.specs.declared.Unwritten.{Unwritten}
use Rattle.ledger_feed.proofs.Determined.{came_same}

pub finish : (state : SoFar) (form : Form) (line made rows : List ℕ) (r s : Result (ℕ × ℕ) Unwritten) (made₁ rows₁ made₂ rows₂ : List ℕ)
    → FinishesSifted state form line made rows r made₁ rows₁ → FinishesSifted state form line made rows s made₂ rows₂
    → (r ≡ s) × (made₁ ≡ made₂) × (rows₁ ≡ rows₂)
finish state form line made rows r s made₁ rows₁ made₂ rows₂ p q =
    (came_same r s (one p.answer q.answer), one p.making q.making, one p.rowing q.rowing)
