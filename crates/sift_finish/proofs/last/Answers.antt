-- `sift_finish::last` meets its contract: the last row alone, or after what the last line makes. Assumes nothing.
use Rattle.sift_finish.proofs.Ends.{last_some}
use Rattle.sift_finish.proofs.last.Goals as goal

pub returns : goal.returns
returns c =
    let a = c.args in
    let k = c.close-closed in
    let p = c.last-2 in
    last_some a.form a.state a.line.now a.made.now a.rows.now
    c.requires
    c.if-state-eq0.false k.result k.new.made k.new.rows k.ensures
    p.new.out p.result p.ensures c.unwrap_or-end-2.result c.unwrap_or-end-2.ensures
