-- `ledger_row::inner::write_loaded` meets its contract. Assumes nothing.
use Rattle.score.specs.Answers.{scored}
use native.Mathlib.Omega.{arith}
use Rattle.ledger_row.specs.Row.{loaded_row}
use Rattle.text_out.proofs.Added.{adds_to, adds_4}
use Rattle.ledger_row.proofs.Fits.{length_spaced, length_shown}
use Rattle.ledger_row.proofs.inner.write_loaded.Goals as goal

pub spaced-b-requires : goal.spaced-b-requires
spaced-b-requires c = let pre = c.requires in
    let a = c.args in
    let p = c.spaced-a in
    let h = length_spaced a.line in
    omega (arith, adds_to p.ensures (omega (arith, pre)), p.auto.out, pre)

pub returns : goal.returns
unfolding loaded_row
returns c =
    let a = c.args in
    let w = c.wide in
    let p = rw w.ensures at c.spaced-b.ensures in
    adds_4 c.spaced-a.ensures p c.shown-c.ensures c.put.ensures
    (omega (
      arith,
      length_spaced a.line,
      length_spaced a.half,
      length_shown (scored a.scored),
      c.requires,
    ))
