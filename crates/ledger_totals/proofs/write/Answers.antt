-- `ledger_totals::write` meets its contract. Assumes nothing.
use native.Mathlib.Omega.{arith}
use Rattle.text_in.specs.Text.{text}
use Rattle.text_out.proofs.Added.{adds_or, adds_to, adds_4}
use Rattle.ledger_totals.specs.Totals.{last_row}
use Rattle.ledger_totals.proofs.Fits.{length_named}
use Rattle.ledger_totals.proofs.write.Goals as goal

pub named-b-requires : goal.named-b-requires
named-b-requires c =
    let a = c.args in
    let p = c.named-a in
    let h = length_named (text "lines ") a.lines in
    omega (arith, adds_to p.ensures (omega arith), p.auto.out, c.requires)

pub named-c-requires : goal.named-c-requires
named-c-requires c = let pre = c.requires in
    let a = c.args in
    let p = c.named-a in
    let q = c.named-b in
    let h = length_named (text "lines ") a.lines in
    let i = length_named (text " loaded ") a.loaded in
    let e = adds_to p.ensures (omega arith) in
    omega (arith, adds_to q.ensures (omega (arith, p.auto.out, pre)), p.auto.out, q.auto.out, pre)

pub returns : goal.returns
unfolding last_row
returns c =
    let a = c.args in
    let p = c.put in
    let n = c.named-c in
    let h = length_named (text "lines ") a.lines in
    let i = length_named (text " loaded ") a.loaded in
    let j = length_named (text " refused ") a.refused in
    adds_4 c.named-a.ensures c.named-b.ensures n.ensures
    (adds_or n.new.out n.result (text "\n") p.new.out p.result c.unwrap_or.result p.ensures c.unwrap_or.ensures)
    (omega (
      arith,
      c.requires,
    ))
