-- `captures_row::inner::capture` meets its contract: the row is made, and then put. Assumes nothing.
use mathlib.Core.Path.{ap, subst, ◌∙◌}
use mathlib.Core.List.{List}
use Prim.Native.Nat.{ℕ}
use native.Mathlib.Omega.{arith}
use Rattle.text_out.specs.Text.{Puts}
use Rattle.text_out.proofs.Added.{adds_front}
use Rattle.captures_row.specs.Rows.{capture_row}
use Rattle.captures_row.proofs.Fits.{fits_capture}
use Rattle.captures_row.proofs.inner.capture.Goals as goal

pub returns : goal.returns
returns c = let wide = c.wide in
    let p = c.put in
    let w = c.write_capture-end in
    let a = c.args in
    let h = fits_capture a.line a.from a.kind wide.result in
    subst (λ (t : List ℕ). Puts a.out.now p.new.out a.at t p.result)
    (adds_front w.ensures (omega arith) ∙ ap (capture_row a.line a.from a.kind) wide.ensures) p.ensures
