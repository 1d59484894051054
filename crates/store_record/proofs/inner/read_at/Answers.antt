-- `store_record::inner::read_at` meets its contract. Assumes nothing.
use mathlib.Core.Path.{◌≡◌, ap}
use Prim.Native.Nat.{ℕ, ◌+◌, ◌-◌, ◌*◌}
use native.Mathlib.Omega.{arith}
use lib.ListN.{take, drop}
use Rattle.store_record.proofs.Answers.{bad_run, no_record, its_record}
use Rattle.store_record.proofs.inner.read_at.Goals as goal

pub returns-then-run-ne0 : goal.returns-then-run-ne0
returns-then-run-ne0 c = let a = c.args in bad_run a.run.now a.number c.refused.result c.refused.ensures c.if-run-ne0.true

pub returns-then-number-run : goal.returns-then-number-run
returns-then-number-run c =
    let a = c.args in
    no_record a.run.now a.number c.if-run-ne0.false c.refused-then-number-run.result c.refused-then-number-run.ensures c.if-number-run.true

pub returns : goal.returns
returns c =
    let a = c.args in
    its_record a.run.now a.number c.if-run-ne0.false c.if-number-run.false _
    (let n : 34 * a.number + 34 - 34 * a.number ≡ 34 = omega arith in ap (λ (n : ℕ). take n (drop (34 * a.number) a.run.now)) n)
    c.read.result c.read.ensures
