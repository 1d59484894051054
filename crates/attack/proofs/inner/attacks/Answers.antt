-- `attack::inner::attacks` meets its contract. Assumes nothing.
use Rattle.attack.proofs.ByKind.{bishops, rooks, queens, others}
use Rattle.attack.proofs.inner.attacks.Goals as goal

pub returns-in-2 : goal.returns-in-2
returns-in-2 c =
    let a = c.args in
    bishops a.tables.now a.kind a.color a.square a.occupied c.bishop.result c.in-2.is c.bishop.ensures

pub returns-in-3 : goal.returns-in-3
returns-in-3 c =
    let a = c.args in
    rooks a.tables.now a.kind a.color a.square a.occupied c.rook.result c.in-3.is c.rook.ensures

pub returns-in-4 : goal.returns-in-4
returns-in-4 c =
    let a = c.args in
    queens a.tables.now a.kind a.color a.square a.occupied c.queen.result c.in-4.is c.queen.ensures

pub returns-in_default : goal.returns-in_default
returns-in_default c =
    let a = c.args in
    others a.tables.now a.kind a.color a.square a.occupied c.step.result c.row.result
    (assumption c) (assumption c) (assumption c) c.row.ensures c.step.ensures
