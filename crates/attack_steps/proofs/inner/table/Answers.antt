-- `attack_steps::inner::table` meets its contract: antt computes the rule at each square and compares it with the table, once for each. Assumes nothing.
use mathlib.Core.Path.{refl}
use native.Mathlib.Omega.{arith}
use Rattle.attack_steps.specs.Steps.{step_table}
use Rattle.attack_steps.proofs.Tables.{at_row, past_rows}
use Rattle.attack_steps.proofs.inner.table.Goals as goal

pub returns-in-0 : goal.returns-in-0
unfolding step_table
returns-in-0 c = at_row _ c.args.row 0 c.in-0.is refl

pub returns-in-1 : goal.returns-in-1
unfolding step_table
returns-in-1 c = at_row _ c.args.row 1 c.in-1.is refl

pub returns-in-2 : goal.returns-in-2
unfolding step_table
returns-in-2 c = at_row _ c.args.row 2 c.in-2.is refl

pub returns-in-3 : goal.returns-in-3
unfolding step_table
returns-in-3 c = at_row _ c.args.row 3 c.in-3.is refl

pub returns-in_default : goal.returns-in_default
unfolding step_table
returns-in_default c = past_rows c.args.row (omega arith)
