-- The public function is determined by its promise: two results that it allows are equal, two NaNs being one. Assumes nothing.
use Rattle.std.proofs.Common.{◌≡◌, ℕ}
use lib.Ieee.{Float}
use Rattle.refusal.proofs.Paper.{answered_one}
use Rattle.fit_coefficient.specs.Promises.{WeighsLine}
use Rattle.std.specs.Prelude.{Result}
use Rattle.refusal.specs.declared.Refusal.{Refusal}
use Rattle.fit_coefficient.specs.declared.Share.{Share}

pub weigh : (value : Float) (half : ℕ) (k : Float) (lines : ℕ) (r s : Result Share Refusal) → WeighsLine value half k lines r → WeighsLine value half k lines s → r ≡ s
weigh value half k lines r s p q = answered_one p q
