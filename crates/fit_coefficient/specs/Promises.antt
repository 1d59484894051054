-- What `weigh` answers and promises, for all inputs: equal doubles here have the same bits, or are both NaN. Definitions only.
use Rattle.std.specs.Prelude.{◌≡◌, ℕ, nat_le, Float, Result}
use Rattle.refusal.specs.Answer.{Answer, given, or_refuse, answered}
use Rattle.refusal.specs.declared.Refusal.TheVariants as R
use Rattle.doubles.specs.Doubles.{◌⊗◌}
use Rattle.fit_coefficient.specs.Coefficient.{points_at, coefficient_of}
use Rattle.fit_coefficient.specs.declared.Share.{Share}
use Rattle.refusal.specs.declared.Refusal.{Refusal}

-- what a line lets expect, and its coefficient: "the score is K times the double"
abbrev pub share_of : Float → ℕ → Float → ℕ → Share
share_of value half k lines = record { expected = points_at (k ⊗ value); coefficient = coefficient_of (points_at (k ⊗ value)) half k lines }

-- SHAPE for no lines, then RESULT for half points above 2
abbrev pub weighed_of : Float → ℕ → Float → ℕ → Answer Share
weighed_of value half k lines = or_refuse (nat_le 1 lines) R.Shape (or_refuse (nat_le half 2) R.Result (given (share_of value half k lines)))

abbrev pub WeighsLine : Float → ℕ → Float → ℕ → Result Share Refusal → Type 0
WeighsLine value half k lines r = answered r ≡ weighed_of value half k lines
