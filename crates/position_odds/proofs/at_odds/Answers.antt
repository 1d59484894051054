-- `position_odds::at_odds` meets its contract. Assumes nothing.
use Rattle.position_odds.proofs.Answered.{overlap_told, union_told, byteboard_told}
use Rattle.position_odds.proofs.at_odds.Goals as goal

pub returns-then-overlap-ne0 : goal.returns-then-overlap-ne0
returns-then-overlap-ne0 c =
    let a = c.args in
    overlap_told a.bitboards.now a.board.now c.if-bitboards-ne-BOARDS.false c.if-board-ne-COUNT.false c.overlap-overlap.result c.lowest.result c.overlap-overlap.ensures
    c.if-overlap-ne0.true c.lowest.ensures

pub returns-then-split-ne0 : goal.returns-then-split-ne0
returns-then-split-ne0 c =
    let y = c in
    let b = y in
    let a = b.args in
    union_told a.bitboards.now a.board.now b.if-bitboards-ne-BOARDS.false y.if-board-ne-COUNT.false c.overlap-overlap.result c.overlap-overlap.ensures c.if-overlap-ne0.false
    c.split-split.result c.lowest-then-split-ne0.result c.split-split.ensures c.if-split-ne0.true c.lowest-then-split-ne0.ensures

pub returns : goal.returns
returns c =
    let y = c in
    let b = y in
    let a = b.args in
    byteboard_told a.bitboards.now a.board.now b.if-bitboards-ne-BOARDS.false y.if-board-ne-COUNT.false c.overlap-overlap.result c.overlap-overlap.ensures c.if-overlap-ne0.false
    c.split-split.result c.lowest_byte.result c.split-split.ensures c.if-split-ne0.false c.lowest_byte.ensures
