-- `ledger_totals::named` meets its contract. Assumes nothing.
use native.Mathlib.Omega.{arith}
use Rattle.text_out.specs.Text.{decimal_of}
use Rattle.text_out.proofs.Added.{adds_or, adds_then, length_20}
use Rattle.ledger_totals.proofs.named.Goals as goal

pub returns : goal.returns
returns c = let unwrap_or = c.unwrap_or-end in
    let a = c.args in
    let p = c.put in
    let q = c.decimal in
    let end = unwrap_or.result in
    adds_then (adds_or a.out.now a.at a.word.now p.new.out p.result end p.ensures unwrap_or.ensures)
    (adds_or p.new.out end (decimal_of a.n) q.new.out q.result c.unwrap_or.result q.ensures c.unwrap_or.ensures)
    (omega (arith, length_20 a.n, c.requires))
