-- `ledger_join::fitting` meets its contract. Assumes nothing.
use mathlib.Core.Path.{sym, ◌∙◌}
use Rattle.ledger_join.proofs.Doors.{ample_takes}
use Rattle.ledger_join.proofs.fitting.Goals as goal

pub returns-then-ample : goal.returns-then-ample
returns-then-ample c =
    let a = c.args in ample_takes a.s a.chunk.now a.room (sym c.ample.ensures ∙ c.if-ample.true)
