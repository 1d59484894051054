-- `ledger_row::inner::refused` meets its contract: the row is made, and then put. Assumes nothing.
use mathlib.Core.Path.{ap, subst, ◌∙◌}
use mathlib.Core.List.{List}
use Prim.Native.Nat.{ℕ}
use Rattle.ledger_row.specs.Row.{refused_row}
use Rattle.text_out.specs.Text.{Puts}
use Rattle.text_out.proofs.Added.{adds_front}
use Rattle.ledger_row.proofs.Fits.{fits_refused}
use Rattle.ledger_row.proofs.inner.refused.Goals as goal

pub returns : goal.returns
returns c = let number = c.number in
    let p = c.put in
    let w = c.write_refused-end in
    let a = c.args in
    subst (λ (t : List ℕ). Puts a.out.now p.new.out a.at t p.result)
    (adds_front w.ensures (fits_refused a.line number.result) ∙ ap (refused_row a.line) number.ensures) p.ensures
