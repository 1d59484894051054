-- `join` is determined by its promise: two results and summaries that it allows are equal. Assumes nothing.
use Rattle.std.proofs.Common.{◌≡◌, ℕ, List}
use Rattle.refusal.proofs.Paper.{one, answered_same}
use Rattle.store_joined.specs.Promises.{JoinsSummaries}
use Rattle.std.specs.Prelude.{Result}
use Rattle.refusal.specs.declared.Refusal.{Refusal}

pub join : (summary more : List ℕ) (r q : Result Unit Refusal) (summary₁ summary₂ : List ℕ)
    → JoinsSummaries summary more r summary₁ → JoinsSummaries summary more q summary₂ → (r ≡ q) × (summary₁ ≡ summary₂)
join summary more r q summary₁ summary₂ p o = (answered_same r q (one p.answer o.answer), one p.counts o.counts)
