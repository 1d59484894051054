-- `join` is determined by its promise: two results that it allows are equal. Assumes nothing.
use mathlib.Core.Path.{◌≡◌}
use Rattle.refusal.proofs.Paper.{answered_one}
use Rattle.score_joined.specs.Promises.{JoinsSums}
use Rattle.std.specs.Prelude.{Result}
use Rattle.refusal.specs.declared.Refusal.{Refusal}
use Rattle.score_errors.specs.declared.Totals.{Totals}
use Prim.Native.Nat.{ℕ}

pub join : (first second r s : Result (Totals × ℕ) Refusal) → JoinsSums first second r → JoinsSums first second s → r ≡ s
join first second r s p q = answered_one p q
