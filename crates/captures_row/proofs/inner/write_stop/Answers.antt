-- `captures_row::inner::write_stop` meets its contract. Assumes nothing.
use mathlib.Core.Path.{refl, subst}
use lib.IntN.{ℤ}
use mir.Syntax.{w32}
use native.Mathlib.Omega.{arith}
use Rattle.laws.proofs.Words.{held_is}
use Rattle.text_out.specs.Text.{Adds}
use Rattle.exchange_value.specs.Answers.{stopped}
use Rattle.text_out.proofs.Added.{adds_4}
use Rattle.ledger_row.proofs.Fits.{length_spaced}
use Rattle.captures_row.specs.Rows.{worth_field, stop_row}
use Rattle.captures_row.proofs.Fits.{left, length_stop, length_worth}
use Rattle.captures_row.proofs.inner.write_stop.Goals as goal

pub stop_word-b-requires : goal.stop_word-b-requires
stop_word-b-requires c =
    let a = c.args in
    left c.followed-a.ensures 21 25 46 (length_spaced a.line) (omega arith)
    (omega (arith, c.requires))

pub worth_word-c-requires : goal.worth_word-c-requires
worth_word-c-requires c =
    let a = c.args in
    left c.stop_word-b.ensures 25 28 53 (length_stop (stopped a.stop)) (omega arith)
    (left c.followed-a.ensures 21 53 74 (length_spaced a.line) (omega arith)
    (omega (arith, c.requires)))

pub returns : goal.returns
unfolding stop_row
returns c =
    let a = c.args in
    let n = c.ranges.worth in
    let k = c.worth_word-c in
    let s = c.stop_word-b in
    let worth = subst (λ (z : ℤ). Adds s.new.out s.result (worth_field z) k.new.out k.result) (held_is {w = w32} n refl) k.ensures in
    adds_4 c.followed-a.ensures s.ensures worth c.put.ensures
    (omega (
      arith,
      length_spaced a.line,
      length_stop (stopped a.stop),
      length_worth a.worth,
      c.requires,
    ))
