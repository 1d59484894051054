-- What a colour brings to the score, and what both bring (document 01, "The score"). Definitions only.
use Rattle.std.specs.Prelude.{List, ℕ}
use Rattle.chess.specs.Named.{white, black}
use Rattle.score_taper.specs.declared.Side.{Side}
use Rattle.score_material.specs.Material.{material}
use Rattle.score_tally.specs.Mobility.{mobility_sum}
use Rattle.score_tally.specs.Weights.{weight_sum}
use Rattle.score_tally.specs.declared.Sides.{Sides}

abbrev pub side_of : List ℕ → ℕ → Side
side_of bbs colour = record {
  opening = weight_sum bbs colour 0;
  ending = weight_sum bbs colour 1;
  material = material bbs colour;
  mobility =
      mobility_sum bbs colour;
}

abbrev pub sides_of : List ℕ → Sides
sides_of bbs = record { white = side_of bbs white; black = side_of bbs black }
