-- `inner::passant` meets its contract. Assumes nothing.
use Rattle.line_tail.proofs.Laws.{passant_none, passant_dash, passant_named}
use Rattle.line_tail.proofs.inner.passant.Goals as goal

pub returns-then-s-eq0 : goal.returns-then-s-eq0
returns-then-s-eq0 c = passant_none c.args.s.now c.if-s-eq0.true

pub returns-then-is : goal.returns-then-is
returns-then-is c = let args = c.args in
    passant_dash args.s.now c.if-s-eq0.false c.is.result c.is.ensures c.if-is.true

pub returns : goal.returns
returns c = let args = c.args in
    passant_named args.s.now c.if-s-eq0.false c.is.result c.is.ensures
    c.if-is.false c.named_square.result c.named_square.ensures
