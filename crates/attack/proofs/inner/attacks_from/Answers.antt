-- `attack::inner::attacks_from` meets its contract. Assumes nothing.
use Rattle.attack.proofs.ByKind.{bishop, rook, queen, other_kind}
use Rattle.attack.proofs.inner.attacks_from.Goals as goal

pub returns-in-2 : goal.returns-in-2
returns-in-2 c =
    let a = c.args in
    bishop a.kind a.color a.square a.occupied c.bishop.result c.in-2.is c.bishop.ensures

pub returns-in-3 : goal.returns-in-3
returns-in-3 c =
    let a = c.args in
    rook a.kind a.color a.square a.occupied c.rook.result c.in-3.is c.rook.ensures

pub returns-in-4 : goal.returns-in-4
returns-in-4 c =
    let a = c.args in
    queen a.kind a.color a.square a.occupied c.queen.result c.in-4.is c.queen.ensures

pub returns-in_default : goal.returns-in_default
returns-in_default c =
    let a = c.args in
    other_kind a.kind a.color a.square a.occupied c.reached.result c.row.result (assumption c) (assumption c) (assumption c)
    c.row.ensures c.reached.ensures
