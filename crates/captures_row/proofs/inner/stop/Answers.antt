-- `captures_row::inner::stop` meets its contract: the row is made, and then put. Assumes nothing.
use mathlib.Core.Path.{refl, ap, subst, ◌∙◌}
use mathlib.Core.List.{List}
use Prim.Native.Nat.{ℕ}
use mir.Syntax.{w32}
use native.Mathlib.Omega.{arith}
use Rattle.laws.proofs.Words.{held, held_is}
use Rattle.text_out.specs.Text.{Puts}
use Rattle.text_out.proofs.Added.{adds_front}
use Rattle.exchange_value.specs.Answers.{stopped}
use Rattle.captures_row.specs.Rows.{stop_row}
use Rattle.captures_row.proofs.Fits.{fits_stop}
use Rattle.captures_row.proofs.inner.stop.Goals as goal

pub returns : goal.returns
returns c =
    let p = c.put in
    let w = c.write_stop-end in
    let a = c.args in
    let h = fits_stop a.line (stopped a.stop) (held w32 a.worth) in
    subst (λ (t : List ℕ). Puts a.out.now p.new.out a.at t p.result)
    (adds_front w.ensures (omega arith) ∙ ap (stop_row a.line (stopped a.stop))
    (held_is {w = w32} c.ranges.worth refl)) p.ensures
