-- `ledger_joined_row::ends_in_lf` meets its contract. Assumes nothing.
use native.Mathlib.Omega.{arith}
use Rattle.ledger_joined_row.proofs.Laws.{none_ends, last_byte}
use Rattle.ledger_joined_row.proofs.ends_in_lf.Goals as goal

pub returns-then-n-eq0 : goal.returns-then-n-eq0
returns-then-n-eq0 c =
    none_ends c.args.row.now (omega (arith, c.if-n-eq0.true))

pub returns : goal.returns
returns c =
    last_byte c.args.row.now (omega (arith, c.if-n-eq0.false))
