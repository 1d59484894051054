-- Each public function is determined by its promise: two results, and two contents of each lent memory, that it allows are equal.
-- Assumes nothing.
use mathlib.Core.Path.{◌≡◌}
use mathlib.Core.List.{List}
use Prim.Native.Nat.{ℕ}
use Rattle.refusal.proofs.Paper.{one, answered_same}
use Rattle.store_gather.specs.Promises.{BeginsSummary, FeedsSummary, EndsSummary}
use Rattle.store_gather.specs.declared.First.{First}
use Rattle.store_gather.specs.declared.GatheredSoFar.{GatheredSoFar}
use Rattle.std.specs.Prelude.{Result}
use Rattle.refusal.specs.declared.Refusal.{Refusal}

pub start : (r q : GatheredSoFar) → BeginsSummary r → BeginsSummary q → r ≡ q
start r q = one

pub feed : (state : GatheredSoFar) (piece chunk summary : List ℕ) (r q : Result GatheredSoFar Refusal) (piece₁ summary₁ piece₂ summary₂ : List ℕ)
    → FeedsSummary state piece chunk summary r piece₁ summary₁ → FeedsSummary state piece chunk summary q piece₂ summary₂
    → (r ≡ q) × (piece₁ ≡ piece₂) × (summary₁ ≡ summary₂)
feed state piece chunk summary r q piece₁ summary₁ piece₂ summary₂ p o =
    (answered_same r q (one p.answer o.answer), one p.kept o.kept, one p.counts o.counts)

pub finish : (state : GatheredSoFar) (records : ℕ) (r q : First) → EndsSummary state records r → EndsSummary state records q → r ≡ q
finish state records r q = one
