-- `ledger_joined_row::row_kind` meets its contract. Assumes nothing.
use mathlib.Core.Path.{sym, ◌∙◌}
use native.Mathlib.Omega.{arith}
use borrow.Author.Tests.{not-true, not-false}
use Rattle.ledger_joined_row.proofs.Laws.{kind_long, kind_open, kind_other, kind_bare, kind_row}
use Rattle.ledger_joined_row.proofs.row_kind.Goals as goal

pub returns-then-row-gt-ROW : goal.returns-then-row-gt-ROW
returns-then-row-gt-ROW c = let a = c.args in kind_long a.number a.row.now (omega (arith, c.if-row-gt-ROW.true))

pub returns-then-not-ends_in_lf : goal.returns-then-not-ends_in_lf
returns-then-not-ends_in_lf c = let a = c.args in kind_open a.number a.row.now
    (sym c.ends_in_lf.ensures ∙ not-true _ c.if-not-ends_in_lf.true-raw)

pub returns-then-n-eq0 : goal.returns-then-n-eq0
returns-then-n-eq0 c = let a = c.args in
    kind_other a.number a.row.now (sym c.front-n.ensures ∙ c.if-n-eq0.true)

pub returns-then-n-row : goal.returns-then-n-row
returns-then-n-row c = let a = c.args in
    kind_bare a.number a.row.now c.front-n.result c.front-n.ensures c.if-n-eq0.false
    (omega (arith, c.if-n-row.true))

pub returns : goal.returns
returns c = let front = c.front-n in
    let a = c.args in
    c.rest_kind.ensures ∙ kind_row a.number a.row.now front.result
    (omega (arith, c.if-row-gt-ROW.false))
    (sym c.ends_in_lf.ensures ∙ not-false _
    c.if-not-ends_in_lf.false-raw) front.ensures c.if-n-eq0.false
    (omega (arith, c.if-n-row.false))
