-- `ledger_joined_row::begins` meets its contract. Assumes nothing.
use native.Mathlib.Omega.{arith}
use Rattle.ledger_joined_row.proofs.Laws.{begins_short}
use Rattle.ledger_joined_row.proofs.begins.Goals as goal

pub returns-then-row-n : goal.returns-then-row-n
returns-then-row-n c =
    let a = c.args in begins_short a.front.now a.row.now (omega (arith, c.if-row-n.true))
