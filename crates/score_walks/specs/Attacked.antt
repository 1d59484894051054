-- How many squares some pieces attack (document 01, "The score" and "The trace"). Definitions only.
use Rattle.std.specs.Prelude.{ℕ}
use Rattle.laws.specs.Sums.{counted}
use Rattle.bits.specs.Bitboard.{has, how_many, squares}

-- the squares that each of some pieces attacks, counted; own pieces and all
unfoldable pub attacked_from : (ℕ → ℕ) → ℕ → ℕ
unfolding counted how_many has squares
attacked_from attack pieces = counted (λ s. how_many 64 (has (attack s))) 0 (squares pieces)
