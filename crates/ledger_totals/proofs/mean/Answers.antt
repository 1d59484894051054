-- `ledger_totals::mean` meets its contract. Assumes nothing.
use Rattle.text_in.specs.Text.{text}
use Rattle.text_out.proofs.Added.{adds_or}
use Rattle.ledger_totals.proofs.Point.{mean_none, mean_some}
use Rattle.ledger_totals.proofs.mean.Goals as goal

pub returns-then-scored-eq0 : goal.returns-then-scored-eq0
returns-then-scored-eq0 c = let unwrap_or = c.unwrap_or-next in
    let a = c.args in
    let p = c.put in
    let q = c.put-then-scored-eq0 in
    mean_none a.scored a.sum c.if-scored-eq0.true
    c.requires
    (adds_or a.out.now a.at (text " mean ") p.new.out p.result unwrap_or.result p.ensures unwrap_or.ensures)
    (adds_or p.new.out unwrap_or.result (text "none") q.new.out q.result c.unwrap_or.result q.ensures c.unwrap_or.ensures)

pub returns : goal.returns
returns c = let unwrap_or = c.unwrap_or-next in
    let a = c.args in
    let p = c.put in
    let q = c.places in
    mean_some a.scored a.sum c.if-scored-eq0.false
    c.requires
    (adds_or a.out.now a.at (text " mean ") p.new.out p.result unwrap_or.result p.ensures unwrap_or.ensures) q.ensures
