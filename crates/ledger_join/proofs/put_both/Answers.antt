-- `ledger_join::put_both` meets its contract. Assumes nothing.
use Rattle.text_out.proofs.Added.{adds_or, adds_then}
use Rattle.ledger_join.proofs.put_both.Goals as goal

pub returns : goal.returns
returns c = let unwrap_or = c.unwrap_or-end in
    let put = c.put in
    let a = c.args in
    adds_then (adds_or a.out.now a.at a.whole.now put.new.out put.result unwrap_or.result put.ensures unwrap_or.ensures)
    (adds_or _ unwrap_or.result a.rest.now c.put-2.new.out c.put-2.result c.unwrap_or.result
    c.put-2.ensures c.unwrap_or.ensures)
    c.requires
