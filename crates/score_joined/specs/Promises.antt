-- What `join` promises, for all inputs. Definitions only.
use Rattle.std.specs.Prelude.{◌≡◌, ◌+◌, ◌^◌, ◌<◌, Result}
use Rattle.score_errors.specs.declared.Totals.{Totals}
use Rattle.score_joined.specs.Sums.{sums_joined}
use Rattle.refusal.specs.declared.Refusal.{Refusal}
use Rattle.refusal.specs.Answer.{answered}
use Prim.Native.Nat.{ℕ}

abbrev pub JoinsSums : Result (Totals × ℕ) Refusal → Result (Totals × ℕ) Refusal → Result (Totals × ℕ) Refusal → Type 0
JoinsSums first second r = answered r ≡ sums_joined (answered first) (answered second)

-- ---- a private function: totals whose sums have room
pub record TotalsFit (x y : Totals) : Type 0 where
  pub scored : x.scored + y.scored < 2 ^ 64
  pub apart : x.apart + y.apart < 2 ^ 64
  pub sum : x.sum + y.sum < 2 ^ 64
