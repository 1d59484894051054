-- `attack_to::inner::attacks_to` meets its contract. Assumes nothing.
use native.Mathlib.Omega.{arith}
use Rattle.attack_to.proofs.Gathered.{gathered, beyond}
use Rattle.attack_to.proofs.inner.attacks_to.Goals as goal

pub returns-then-square-gt-LAST : goal.returns-then-square-gt-LAST
returns-then-square-gt-LAST c = let a = c.args in beyond a.bitboards.now a.square a.occupied (omega arith)

pub returns : goal.returns
returns c = let reached4 = c.reached-4 in
    let reached3 = c.reached-3 in
    let reached2 = c.reached-2 in
    let reached = c.reached in
    let args = c.args in
    gathered args.bitboards.now args.square args.occupied _ _ _ _ _ _ _ _ _ _ _ _ _ reached.type_inv reached2.type_inv reached3.type_inv reached4.type_inv
    c.standing.ensures reached.ensures
    c.standing-2.ensures reached2.ensures
    c.both.ensures reached3.ensures
    c.both-2.ensures reached4.ensures c.both-queens.ensures
    c.both-3.ensures c.bishop.ensures c.both-4.ensures c.rook.ensures
