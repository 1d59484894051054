-- `store_text::write_row` meets its contract. Assumes nothing.
use Rattle.std.proofs.Common.{ap, arith}
use Rattle.text_out.specs.Text.{decimal_of}
use Rattle.text_out.proofs.Added.{adds_4, length_20}
use Rattle.ledger_row.specs.Row.{refused_row}
use Rattle.ledger_row.proofs.Fits.{length_spaced}
use Rattle.store_text.proofs.Laid.{by_text}
use Rattle.store_text.proofs.write_row.Goals as goal

pub returns : goal.returns
unfolding refused_row
returns c =
    let a = c.args in
    adds_4 c.spaced-a.ensures c.put-b.ensures
    (by_text (ap decimal_of c.wide.ensures)
    c.number-c.ensures) c.put.ensures
    (omega (
      arith,
      length_spaced a.first.number,
      length_20 a.first.refusal,
      c.requires,
    ))
