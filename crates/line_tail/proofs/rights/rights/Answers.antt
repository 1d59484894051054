-- `rights::rights` meets its contract. Assumes nothing.
use Rattle.line_tail.proofs.Laws.{rights_are}
use Rattle.line_tail.proofs.rights.rights.Goals as goal

pub returns : goal.returns
returns c =
    rights_are c.args.s.now c.taken_off-a.result.now c.taken_off-b.result.now c.taken_off-c.result.now
    c.taken_off-a.ensures c.taken_off-b.ensures c.taken_off-c.ensures
    _ _ _ _ c.starts_with.ensures c.starts_with-2.ensures c.starts_with-3.ensures
    c.starts_with-4.ensures
