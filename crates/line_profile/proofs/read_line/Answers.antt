-- `line_profile::read_line` meets its contract. Assumes nothing.
use Rattle.line_profile.proofs.Lent.{turned_away, written}
use Rattle.line_profile.proofs.read_line.Goals as goal

pub returns-in-Err : goal.returns-in-Err
returns-in-Err c =
    let a = c.args in
    turned_away a.profile a.line.now a.bitboards.now a.board.now c.if-bitboards-ne-BOARDS.false c.if-board-ne-COUNT.false c.read-loaded.result c.read-loaded.ensures
    c.under-judged.result c.under-judged.ensures _ c.in-Err.is

pub returns : goal.returns
returns c =
    let e = c in
    let a = e.args in
    written a.profile a.line.now a.bitboards.now a.board.now e.if-bitboards-ne-BOARDS.false e.if-board-ne-COUNT.false c.read-loaded.result c.read-loaded.ensures
    c.under-judged.result c.under-judged.ensures _ _ c.in_default.is c.read_line.result _ _ c.read_line.ensures
