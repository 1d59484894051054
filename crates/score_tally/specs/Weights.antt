-- Square weights (document 01, "The score"). Definitions only.
use Rattle.std.specs.Prelude.{List, ℕ, ℤ, pos}
use Rattle.laws.specs.Sums.{sum_z, added}
use Rattle.chess.specs.Codes.{code_of}
use Rattle.bits.specs.Bitboard.{squares}
use Rattle.attack.specs.Attacks.{standing}
use Rattle.score_pst.specs.Pst.{pst_of}

-- what some pieces weigh together
unfoldable pub weighed_from : (ℕ → ℤ) → ℕ → ℤ
unfolding added squares
weighed_from weight pieces = added weight (pos 0) (squares pieces)

-- "four sums, two sides by two phases"
unfoldable pub weight_sum : List ℕ → ℕ → ℕ → ℤ
unfolding sum_z weighed_from pst_of
weight_sum bbs colour phase = sum_z 6 (λ kind. weighed_from (λ s. pst_of (code_of kind colour) s phase) (standing bbs kind colour))
