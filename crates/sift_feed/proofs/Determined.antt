-- The public function is determined by its promise: two answers, and two contents of each lent memory, that it allows are equal. Assumes nothing.
use mathlib.Core.Path.{◌≡◌}
use mathlib.Core.List.{List}
use Prim.Native.Nat.{ℕ}
use Rattle.refusal.proofs.Paper.{one}
use Rattle.ledger_feed.specs.declared.SoFar.{SoFar}
use Rattle.sift_form.specs.declared.Form.{Form}
use Rattle.sift_feed.specs.Promises.{Sifts}
use Rattle.std.specs.Prelude.{Result}
use Rattle.ledger_feed.specs.declared.Unwritten.{Unwritten}
use Rattle.ledger_feed.proofs.Determined.{came_same}

pub feed : (state : SoFar) (form : Form) (line chunk made rows : List ℕ) (r s : Result (SoFar × ℕ × ℕ) Unwritten) (line₁ made₁ rows₁ line₂ made₂ rows₂ : List ℕ)
    → Sifts state form line chunk made rows r line₁ made₁ rows₁ → Sifts state form line chunk made rows s line₂ made₂ rows₂
    → (r ≡ s) × (line₁ ≡ line₂) × (made₁ ≡ made₂) × (rows₁ ≡ rows₂)
feed state form line chunk made rows r s line₁ made₁ rows₁ line₂ made₂ rows₂ p q = (
  came_same r s (one p.answer q.answer),
  one p.kept q.kept,
  one p.making q.making,
  one p.rowing q.rowing,
)
