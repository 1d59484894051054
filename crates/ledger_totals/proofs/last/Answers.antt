-- `ledger_totals::last` meets its contract: the row is made, and then put. Assumes nothing.
use mathlib.Core.Path.{subst}
use mathlib.Core.List.{List}
use Prim.Native.Nat.{ℕ}
use Rattle.text_out.specs.Text.{Puts}
use Rattle.text_out.proofs.Added.{adds_front}
use Rattle.ledger_totals.proofs.Fits.{fits_last}
use Rattle.ledger_totals.proofs.last.Goals as goal

pub returns : goal.returns
returns c =
    let p = c.put in
    let w = c.write-end in
    let a = c.args in
    subst (λ (t : List ℕ). Puts a.out.now p.new.out a.at t p.result)
    (adds_front w.ensures (fits_last a.lines a.loaded a.refused)) p.ensures
