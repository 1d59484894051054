-- `ledger_row::inner::write_refused` meets its contract. Assumes nothing.
use native.Mathlib.Omega.{arith}
use Rattle.ledger_row.specs.Row.{refused_row}
use Rattle.text_out.proofs.Added.{adds_4, length_20}
use Rattle.ledger_row.proofs.Fits.{length_spaced}
use Rattle.ledger_row.proofs.inner.write_refused.Goals as goal

pub returns : goal.returns
unfolding refused_row
returns c =
    let a = c.args in
    let w = c.wide in
    let p = rw w.ensures at c.number-c.ensures in
    adds_4 c.spaced-a.ensures c.put-b.ensures p
    c.put.ensures
    (omega (
      arith,
      length_spaced a.line,
      length_20 a.refusal,
      c.requires,
    ))
