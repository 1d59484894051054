-- `position_boards::split` meets its contract. Assumes nothing.
use Rattle.position_boards.proofs.Wrong.{split_found}
use Rattle.position_boards.proofs.split.Goals as goal

pub returns : goal.returns
returns c =
    let a = c.args in
    split_found a.bitboards.now c.unite-white.result c.unite-black.result
    (c.shared_slice_known-3-1.given 0).fits (c.shared_slice_known-3-1.given 1).fits c.unite-white.ensures c.unite-black.ensures c.if-bitboards-ne-BOARDS.false
