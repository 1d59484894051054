-- `line_ranks::inner::step` meets its contract. Assumes nothing.
use native.Mathlib.Omega.{arith}
use Rattle.line_ranks.proofs.Steps.{run_le}
use Rattle.line_ranks.proofs.inner.step.Goals as goal

pub overflow_add-file : goal.overflow_add-file
overflow_add-file c =
    let e = c.run-empty.ensures in
    record { fits = omega (arith, run_le c.args.b) }
