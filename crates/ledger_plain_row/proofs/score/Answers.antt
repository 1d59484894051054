-- `ledger_plain_row::score` meets its contract. Assumes nothing.
use mathlib.Core.Path.{sym, ◌∙◌}
use borrow.Author.Tests.{not-true, not-false}
use Rattle.ledger_plain_row.proofs.Laws.{score_read, score_none, score_open, score_there}
use Rattle.ledger_plain_row.proofs.score.Goals as goal

pub returns-then-not-is_points : goal.returns-then-not-is_points
returns-then-not-is_points c = let sign = c.sign-k in
    let args = c.args in
    score_none args.s.now sign.result sign.ensures c.read-n.result c.read-n.ensures
    (sym c.is_points.ensures ∙ not-true _ c.if-not-is_points.true-raw)

pub slice_bounds-starts-count : goal.slice_bounds-starts-count
slice_bounds-starts-count c = let sign = c.sign-k in
    let args = c.args in
    score_read args.s.now sign.result sign.ensures c.read-n.result c.read-n.ensures

pub slice_bounds-starts-start : goal.slice_bounds-starts-start
slice_bounds-starts-start c = let sign = c.sign-k in
    let args = c.args in
    score_read args.s.now sign.result sign.ensures c.read-n.result c.read-n.ensures

pub returns-then-not-starts : goal.returns-then-not-starts
returns-then-not-starts c = let read = c.read-n in
    let sign = c.sign-k in
    let args = c.args in
    score_open args.s.now sign.result sign.ensures read.result read.ensures
    (sym c.is_points.ensures ∙ not-false _ c.if-not-is_points.false-raw)
    (sym c.starts.ensures ∙ not-true _ c.if-not-starts.true-raw)

pub returns : goal.returns
returns c = let read = c.read-n in
    let sign = c.sign-k in
    let args = c.args in
    score_there args.s.now sign.result sign.ensures read.result read.ensures
    (sym c.is_points.ensures ∙ not-false _ c.if-not-is_points.false-raw)
    (sym c.starts.ensures ∙ not-false _ c.if-not-starts.false-raw)
