-- What each function promises, for all inputs. Definitions only.
use Rattle.std.specs.Prelude.{◌≡◌, false, cond, List, ℕ, replicate}
use Rattle.line_ranks.specs.Ranks.{are_eight_ranks, board_of}
use Rattle.line_ranks.specs.declared.inner.Placed.{Placed}

-- a board with nothing on it
abbrev pub empty_board : List ℕ
empty_board = replicate 64 0

-- eight ranks, and what stands on their squares; anything else stands for nothing
pub record Places (s : List ℕ) (r : Placed) : Type 0 where
  pub ok : r.ok ≡ are_eight_ranks s
  pub board : r.board ≡ cond (are_eight_ranks s) (board_of s) empty_board

pub record Nothing (r : Placed) : Type 0 where
  pub ok : r.ok ≡ false
  pub board : r.board ≡ empty_board
