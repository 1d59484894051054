-- `attack_to::inner::is_check` meets its contract. Assumes nothing.
use native.Mathlib.Omega.{arith}
use Rattle.attack_to.proofs.Checks.{lowest_lt, no_king_holds, a_king}
use Rattle.attack_to.proofs.inner.is_check.Goals as goal

pub returns-then-king-eq0 : goal.returns-then-king-eq0
returns-then-king-eq0 c =
    let a = c.args in
    no_king_holds a.bitboards.now a.color c.standing-king.result c.standing-king.ensures c.if-king-eq0.true

pub overflow_cast-scan : goal.overflow_cast-scan
overflow_cast-scan c =
    omega (arith, c.scan.ensures, lowest_lt c.standing-king.result c.standing-king.type_inv c.if-king-eq0.false)

pub returns : goal.returns
returns c =
    let a = c.args in
    a_king a.bitboards.now a.color c.standing-king.result c.standing-king.ensures
    c.scan.result c.is_attacked.result c.if-king-eq0.false c.scan.ensures c.is_attacked.ensures
