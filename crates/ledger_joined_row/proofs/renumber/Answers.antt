-- `ledger_joined_row::renumber` meets its contract. Assumes nothing.
use native.Mathlib.Omega.{arith}
use Rattle.text_out.proofs.Added.{adds_or}
use Rattle.ledger_joined_row.proofs.Laws.{front_fits, renumber_adds}
use Rattle.ledger_joined_row.proofs.renumber.Goals as goal

pub slice_bounds-put-count : goal.slice_bounds-put-count
slice_bounds-put-count c =
    let a = c.args in
    omega (arith, front_fits a.number a.row.now, c.front-n.ensures)

pub returns : goal.returns
returns c = let spaced = c.spaced-end in
    let front = c.front-n in
    let pre = c.requires in
    let a = c.args in
    renumber_adds a.whole a.number front.result a.row.now spaced.ensures
    (adds_or _ spaced.result _ c.put.new.out c.put.result c.unwrap_or.result
    c.put.ensures c.unwrap_or.ensures) front.ensures pre.1 pre.0

pub slice_bounds-put-start : goal.slice_bounds-put-start
slice_bounds-put-start c =
    let a = c.args in
    omega (arith, front_fits a.number a.row.now, c.front-n.ensures)
