-- What the pieces attack, as a sum over their squares. Assumes nothing.
use mathlib.Core.Path.{◌≡◌, refl}
use Prim.Native.Nat.{ℕ}
use Rattle.laws.specs.Sums.{counted}
use Rattle.bits.specs.Bitboard.{has, how_many, squares}
use Rattle.score_tally.specs.Mobility.{attacked_from}

pub attacked_counted : (attack : ℕ → ℕ) (b : ℕ) → attacked_from attack b ≡ counted (λ s. how_many 64 (has (attack s))) 0 (squares b)
unfolding attacked_from
attacked_counted attack b = refl
