-- W-203: "With that, equal positions have equal placement text." What is claimed of every text and every line that is taken. Definitions only.
use Rattle.std.specs.Prelude.{◌≡◌, true, List, ℕ}
use Rattle.refusal.specs.Answer.{given}
use Rattle.line_ranks.specs.Ranks.{is_rank, squares_of, are_eight_ranks, board_of}
use Rattle.line_parse.specs.Line.{Line, line_of, position_field, ranks_of}
use Rattle.line_text.specs.Spelt.{spelt, placement}

-- what is taken is the text of what it says: a rank of its squares, eight ranks of their board
pub record OwnText (s : List ℕ) : Type 0 where
  pub rank : is_rank s ≡ true → s ≡ spelt 0 (squares_of s)
  pub eight : are_eight_ranks s ≡ true → s ≡ placement (board_of s)

-- "equal positions have equal placement text": two texts that are taken, and any two lines that are taken, whatever stands beside their ranks
pub record OneText (s t : List ℕ) : Type 0 where
  pub eight : are_eight_ranks s ≡ true → are_eight_ranks t ≡ true → board_of s ≡ board_of t → s ≡ t
  pub lines : (k l : Line) → line_of s ≡ given k → line_of t ≡ given l → k.board ≡ l.board → ranks_of (position_field s) ≡ ranks_of (position_field t)
