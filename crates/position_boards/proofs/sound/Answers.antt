-- `position_boards::sound` meets its contract: each return is one of its tests. Assumes nothing.
use Rattle.position_boards.proofs.Tested.{no_fourteen, overlapping, white_amiss, black_decides}
use Rattle.position_boards.proofs.sound.Goals as goal

pub returns-then-bitboards-ne-BOARDS : goal.returns-then-bitboards-ne-BOARDS
returns-then-bitboards-ne-BOARDS c = no_fourteen c.args.bitboards.now c.if-bitboards-ne-BOARDS.true

pub returns-then-shared-ne0 : goal.returns-then-shared-ne0
returns-then-shared-ne0 c =
    let known = c.shared_slice_known-1 in
    let a = c.args in
    overlapping a.bitboards.now (known.given 0).fits (known.given 1).fits c.shared.result c.shared.ensures c.if-shared-ne0.true

pub returns-then-bitboards-white : goal.returns-then-bitboards-white
returns-then-bitboards-white c =
    let known = c.shared_slice_known-1 in
    let a = c.args in
    white_amiss a.bitboards.now (known.given 0).fits (known.given 1).fits c.unite-white.result c.unite-white.ensures c.if-bitboards-white.true

pub returns : goal.returns
returns c =
    let l = c in
    let known = l.shared_slice_known-1 in
    let a = l.args in
    black_decides a.bitboards.now (known.given 0).fits (known.given 1).fits l.shared.result c.unite-white.result c.unite-black.result
    l.if-bitboards-ne-BOARDS.false l.shared.ensures c.if-shared-ne0.false c.unite-white.ensures c.if-bitboards-white.false c.unite-black.ensures
