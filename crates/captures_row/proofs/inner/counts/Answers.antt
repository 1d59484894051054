-- `captures_row::inner::counts` meets its contract: the row is made, and then put. Assumes nothing.
use mathlib.Core.Path.{subst}
use mathlib.Core.List.{List}
use Prim.Native.Nat.{ℕ}
use native.Mathlib.Omega.{arith}
use Rattle.text_out.specs.Text.{Puts}
use Rattle.text_out.proofs.Added.{adds_front}
use Rattle.captures_row.proofs.Fits.{fits_counts}
use Rattle.captures_row.proofs.inner.counts.Goals as goal

pub returns : goal.returns
returns c =
    let p = c.put in
    let w = c.write_counts-end in
    let a = c.args in
    let h = fits_counts a.lines a.told a.refused in
    subst (λ (t : List ℕ). Puts a.out.now p.new.out a.at t p.result) (adds_front w.ensures (omega arith)) p.ensures
