-- `ledger_row::inner::loaded` meets its contract: the row is made, and then put. Assumes nothing.
use mathlib.Core.Path.{subst}
use mathlib.Core.List.{List}
use Prim.Native.Nat.{ℕ}
use Rattle.score.specs.Answers.{scored}
use Rattle.text_out.specs.Text.{Puts}
use Rattle.text_out.proofs.Added.{adds_front}
use Rattle.ledger_row.proofs.Fits.{fits_loaded}
use Rattle.ledger_row.proofs.inner.loaded.Goals as goal

pub returns : goal.returns
returns c =
    let p = c.put in
    let w = c.write_loaded-end in
    let a = c.args in
    subst (λ (t : List ℕ). Puts a.out.now p.new.out a.at t p.result)
    (adds_front w.ensures (fits_loaded a.line a.half (scored a.scored))) p.ensures
