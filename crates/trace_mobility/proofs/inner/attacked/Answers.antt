-- `trace_mobility::inner::attacked` meets its contract. Assumes nothing.
use Rattle.trace_mobility.proofs.Masks.{of_pawns, of_knights, of_kings}
use Rattle.trace_mobility.proofs.inner.attacked.Goals as goal

pub returns-in-0 : goal.returns-in-0
returns-in-0 c = let a = c.args in of_pawns c.by_pawns.result a.pieces a.kind a.color a.occupied c.in-0.is
    c.by_pawns.ensures

pub returns-in-1 : goal.returns-in-1
returns-in-1 c = let a = c.args in of_knights c.by_knights.result a.pieces a.kind a.color a.occupied
    c.in-1.is c.by_knights.ensures

pub returns-in-5 : goal.returns-in-5
returns-in-5 c = let a = c.args in of_kings c.by_kings.result a.pieces a.kind a.color a.occupied
    c.in-5.is c.by_kings.ensures
