-- Each public function is determined by its promise: two contents of the lent summary that it allows are equal. Assumes nothing.
use Rattle.std.proofs.Common.{◌≡◌, ℕ, List}
use Rattle.refusal.proofs.Paper.{one}
use Rattle.store_counts.specs.Promises.{CountsRecord, UncountsRecord}

pub count : (summary bytes summary₁ summary₂ : List ℕ) → CountsRecord summary bytes summary₁ → CountsRecord summary bytes summary₂ → summary₁ ≡ summary₂
count summary bytes summary₁ summary₂ = one

pub uncount : (summary bytes summary₁ summary₂ : List ℕ) → UncountsRecord summary bytes summary₁ → UncountsRecord summary bytes summary₂ → summary₁ ≡ summary₂
uncount summary bytes summary₁ summary₂ = one
