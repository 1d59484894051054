-- `ledger_joined_row::spaced` meets its contract. Assumes nothing.
use native.Mathlib.Omega.{arith}
use Rattle.text_in.specs.Text.{text}
use Rattle.text_out.specs.Text.{decimal_of}
use Rattle.text_out.proofs.Added.{adds_then, adds_or, length_20}
use Rattle.ledger_joined_row.proofs.spaced.Goals as goal

pub returns : goal.returns
returns c = let unwrap_or = c.unwrap_or-end in
    let decimal = c.decimal in
    let a = c.args in
    adds_then (adds_or a.out.now a.at (decimal_of a.n) decimal.new.out decimal.result unwrap_or.result decimal.ensures unwrap_or.ensures)
    (adds_or _ unwrap_or.result (text " ") c.put.new.out c.put.result c.unwrap_or.result
    c.put.ensures c.unwrap_or.ensures)
    (omega (arith, length_20 a.n, c.requires))
