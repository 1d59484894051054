-- `position_boards::bitboards_of` meets its contract. Assumes nothing.
use Rattle.position_boards.proofs.Made.{made, strays_seen}
use Rattle.position_boards.proofs.bitboards_of.Goals as goal

pub returns : goal.returns
returns c =
    let bytes = c.args.board.now in (
      made bytes c.sorted-squares.result c.boards_of-bitboards.result c.sorted-squares.ensures c.boards_of-bitboards.ensures,
      strays_seen bytes c.sorted-squares.result c.sorted-squares.ensures,
    )
