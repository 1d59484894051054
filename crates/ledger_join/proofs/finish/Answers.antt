-- `ledger_join::finish` meets its contract. Assumes nothing.
use mathlib.Core.Path.{sym, ◌∙◌}
use native.Mathlib.Omega.{arith}
use borrow.Author.Tests.{not-false}
use Rattle.text_out.proofs.Added.{adds_or}
use Rattle.ledger_join.specs.Promises.{totals_of_all}
use Rattle.ledger_join.proofs.Doors.{end_row}
use Rattle.ledger_join.proofs.finish.Goals as goal

pub returns : goal.returns
returns c = let a = c.args in let k =
    c.last-placed in end_row a.state a.out.now
    (sym c.counts_fit.ensures
    ∙ not-false _ c.if-not-counts_fit.false-raw)
    (sym c.between.ensures
    ∙ not-false _ c.if-not-between.false-raw)
    (omega (arith, c.if-out-lt-ROW.false)) c.unwrap_or.result _
    (adds_or a.out.now 0 (totals_of_all a.state) _ k.result c.unwrap_or.result k.ensures c.unwrap_or.ensures)
