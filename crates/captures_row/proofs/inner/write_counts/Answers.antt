-- `captures_row::inner::write_counts` meets its contract. Assumes nothing.
use native.Mathlib.Omega.{arith}
use Rattle.text_in.specs.Text.{text}
use Rattle.text_out.proofs.Added.{adds_4}
use Rattle.captures_row.specs.Rows.{counts_row}
use Rattle.ledger_totals.proofs.Fits.{length_named}
use Rattle.captures_row.proofs.Fits.{left}
use Rattle.captures_row.proofs.inner.write_counts.Goals as goal

pub named-b-requires : goal.named-b-requires
named-b-requires c =
    let a = c.args in
    left c.named-a.ensures 26 26 84 (length_named (text "lines ") a.lines) (omega arith)
    (omega (arith, c.requires))

pub named-c-requires : goal.named-c-requires
named-c-requires c =
    let a = c.args in
    left c.named-b.ensures 26 29 55 (length_named (text " told ") a.told) (omega arith)
    (left c.named-a.ensures 26 55 84
    (length_named (text "lines ") a.lines) (omega arith) (omega (
      arith,
      c.requires,
    )))

pub returns : goal.returns
unfolding counts_row
returns c =
    let a = c.args in
    adds_4 c.named-a.ensures c.named-b.ensures
    c.named-c.ensures c.put.ensures
    (omega (
      arith,
      length_named (text "lines ") a.lines,
      length_named (text " told ") a.told,
      length_named (text " refused ") a.refused,
      c.requires,
    ))
