-- `ledger_plain_row::read` meets its contract. Assumes nothing.
use mathlib.Core.Path.{sym, ◌∙◌}
use Rattle.ledger_plain_row.proofs.Laws.{read_zero}
use Rattle.ledger_plain_row.proofs.read.Goals as goal

pub returns-then-starts : goal.returns-then-starts
returns-then-starts c = read_zero c.args.s.now (sym c.starts.ensures ∙ c.if-starts.true)
