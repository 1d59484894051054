use mathlib.Core.Path.{◌≡◌}
use Rattle.position_boards.proofs.Copied.{copied_to, board_by}
use Rattle.position_boards.proofs.boards_of.Given as goal

abbrev pub invariant-loop-code : goal.invariant-loop-code
invariant-loop-code l = l.boards ≡ copied_to 14 (board_by l.squares) l.code
