-- `captures_close::put_listed` meets its contract: the rows are made, and then put. Assumes nothing.
use mathlib.Core.Path.{subst}
use mathlib.Core.List.{List}
use Prim.Native.Nat.{ℕ}
use Rattle.text_out.specs.Text.{Puts}
use Rattle.text_out.proofs.Added.{adds_front}
use Rattle.captures_close.proofs.Columns.{fits_listed}
use Rattle.captures_close.proofs.put_listed.Goals as goal

pub returns : goal.returns
returns c =
    let p = c.put in
    let w = c.write_listed-end in
    let a = c.args in
    subst (λ (t : List ℕ). Puts a.out.now p.new.out a.at t p.result)
    (adds_front w.ensures (fits_listed a.line a.listed a.stop
    c.requires.most)) p.ensures
