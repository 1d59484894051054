-- `line_parse::half_points` meets its contract. Assumes nothing.
use Rattle.line_parse.proofs.Words.{is_lost, is_draw, is_won, no_result}
use Rattle.line_parse.proofs.half_points.Goals as goal

pub returns-then-is : goal.returns-then-is
returns-then-is c =
    is_lost c.args.res.now c.is.result c.is.ensures c.if-is.true

pub returns-then-is-2 : goal.returns-then-is-2
returns-then-is-2 c =
    is_draw c.args.res.now c.is.result c.is.ensures c.if-is.false c.is-2.result
    c.is-2.ensures c.if-is-2.true

pub returns-then-is-3 : goal.returns-then-is-3
returns-then-is-3 c =
    is_won c.args.res.now c.is.result c.is.ensures c.if-is.false c.is-2.result
    c.is-2.ensures c.if-is-2.false c.is-3.result c.is-3.ensures c.if-is-3.true

pub returns : goal.returns
returns c =
    no_result c.args.res.now c.is.result c.is.ensures c.if-is.false c.is-2.result
    c.is-2.ensures c.if-is-2.false c.is-3.result c.is-3.ensures c.if-is-3.false
