-- `store_text::table::column` meets its contract. Assumes nothing.
use Rattle.store_text.proofs.Tests.{column_adds}
use Rattle.store_text.proofs.table.column.Goals as goal

pub returns : goal.returns
returns c =
    let a = c.args in
    column_adds a.width c.spaces-n.result a.word.now
    c.requires.1.narrow
    c.requires.0
    c.spaces-n.ensures
    c.put-next.ensures c.put.ensures
    c.requires.1.room
