-- `text_in::inner::text_before` meets its contract. Assumes nothing.
use mathlib.Core.Path.{sym, ap, ◌∙◌}
use lib.ListN.{take}
use Prim.Native.Nat.{ℕ}
use lib.Seq.{length-take-le}
use Rattle.text_in.proofs.Parts.{before_found, before_take}
use Rattle.text_in.proofs.inner.text_before.Goals as goal

pub slice_bounds-result-end : goal.slice_bounds-result-end
slice_bounds-result-end c =
    let s = c.args.s.now in
    sym (length-take-le c.find-end.result s (before_found c.args.mark s c.find-end.ensures))

pub returns : goal.returns
returns c =
    let f = c in
    let s = f.args.s.now in
    ap (λ (k : ℕ). take k s) f.find-end.ensures ∙ before_take f.args.mark s
