-- Each public function is determined by its promise: two answers, and two contents of each lent memory, that it allows are equal.
-- Assumes nothing.
use mathlib.Core.Path.{◌≡◌}
use mathlib.Core.List.{List}
use Prim.Native.Nat.{ℕ}
use Rattle.refusal.proofs.Paper.{one}
use Rattle.exchange_start.specs.declared.Mode.{Mode}
use Rattle.ledger_feed.specs.declared.SoFar.{SoFar}
use Rattle.captures_feed.specs.Promises.{TellsQuestions, TellsLast}
use Rattle.std.specs.Prelude.{Result}
use Rattle.ledger_feed.specs.declared.Unwritten.{Unwritten}
use Rattle.ledger_feed.proofs.Determined.{came_same}

pub feed : (mode : Mode) (state : SoFar) (line chunk out : List ℕ) (r s : Result (SoFar × ℕ) Unwritten) (line₁ out₁ line₂ out₂ : List ℕ)
    → TellsQuestions mode state line chunk out r line₁ out₁ → TellsQuestions mode state line chunk out s line₂ out₂ → (r ≡ s) × (line₁ ≡ line₂) × (out₁ ≡ out₂)
feed mode state line chunk out r s line₁ out₁ line₂ out₂ p q =
    (came_same r s (one p.answer q.answer), one p.kept q.kept, one p.rows q.rows)

pub finish : (mode : Mode) (state : SoFar) (line out : List ℕ) (r s : Result ℕ Unwritten) (out₁ out₂ : List ℕ)
    → TellsLast mode state line out r out₁ → TellsLast mode state line out s out₂ → (r ≡ s) × (out₁ ≡ out₂)
finish mode state line out r s out₁ out₂ p q = (came_same r s (one p.answer q.answer), one p.rows q.rows)
