-- `rights::are_rights` meets its contract. Assumes nothing.
use Rattle.line_tail.proofs.Laws.{dash_rights, letters_left}
use Rattle.line_tail.proofs.rights.are_rights.Goals as goal

pub returns-then-is : goal.returns-then-is
returns-then-is c = dash_rights c.args.s.now c.is.result c.is.ensures c.if-is.true

pub returns : goal.returns
returns c =
    letters_left c.args.s.now c.taken_off-a.result.now c.taken_off-b.result.now
    c.taken_off-c.result.now c.taken_off-a.ensures c.taken_off-b.ensures c.taken_off-c.ensures
    c.is.result c.is.ensures c.if-is.false c.taken_off-d.result.now c.taken_off-d.ensures
