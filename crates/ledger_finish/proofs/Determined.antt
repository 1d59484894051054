-- Each public function is determined by its promise: two answers, and two contents of the lent memory, that it allows are equal.
-- Assumes nothing.
use mathlib.Core.Path.{◌≡◌}
use mathlib.Core.List.{List}
use Prim.Native.Nat.{ℕ}
use Rattle.refusal.proofs.Paper.{one}
use Rattle.line_profile.specs.declared.Profile.{Profile}
use Rattle.ledger_feed.specs.declared.SoFar.{SoFar}
use Rattle.ledger_finish.specs.Promises.{CountsUnfinished, Finishes}
use Rattle.std.specs.Prelude.{Result}
use Rattle.ledger_feed.specs.declared.Unwritten.{Unwritten}
use Rattle.ledger_feed.proofs.Determined.{came_same}

pub unfinished : (held r s : ℕ) → CountsUnfinished held r → CountsUnfinished held s → r ≡ s
unfinished held r s p q = one p q

pub finish : (profile : Profile) (state : SoFar) (line out : List ℕ) (r s : Result ℕ Unwritten) (out₁ out₂ : List ℕ)
    → Finishes profile state line out r out₁ → Finishes profile state line out s out₂ → (r ≡ s) × (out₁ ≡ out₂)
finish profile state line out r s out₁ out₂ p q = (came_same r s (one p.answer q.answer), one p.rows q.rows)
