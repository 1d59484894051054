-- The shipped weights, as document 01 says them: "The shipped weights are the score's: its values without the king's, 33, its four
-- mobility factors, 11, and for each kind, phase and square the PST number of the white piece there". Definitions only.
use Rattle.std.specs.Prelude.{ℕ, ◌/◌, ◌%◌, List, ℤ, pos, Float}
use Rattle.laws.specs.Tables.{tabulate}
use Rattle.chess.specs.Codes.{code_of}
use Rattle.score_pst.specs.Pst.{pst_of}
use Rattle.chess.specs.Values.{value_of}
use Rattle.score_taper.specs.Parts.{tempo_value}
use Rattle.score_material.specs.Material.{pair_value}
use Rattle.score_tally.specs.Mobility.{factor_of}
use Rattle.doubles.specs.Doubles.{dbl}
use Rattle.trace_counts.specs.declared.Weights.{Weights}

-- "a square weight at 128·kind + 64·phase + square": what stands at i
unfoldable pub square_weight : ℕ → ℤ
unfolding pst_of
square_weight i = pst_of (code_of (i / 128) 0) (i % 64) (i % 128 / 64)

-- "eleven named weights as doubles in one record"
unfoldable pub shipped : Weights
shipped = record {
  pawn = dbl (pos (value_of 0));
  knight = dbl (pos (value_of 1));
  bishop = dbl (pos (value_of 2));
  rook = dbl (pos (value_of 3));
  queen = dbl (pos (value_of 4));
  bishop_pair = dbl (pos pair_value);
  knight_mobility = dbl (pos (factor_of 1));
  bishop_mobility = dbl (pos (factor_of 2));
  rook_mobility = dbl (pos (factor_of 3));
  queen_mobility = dbl (pos (factor_of 4));
  tempo = dbl (pos tempo_value);
}

-- "and 768 square weights beside it"
unfoldable pub shipped_squares : List Float
unfolding tabulate square_weight
shipped_squares = tabulate 768 (λ i. dbl (square_weight i))
