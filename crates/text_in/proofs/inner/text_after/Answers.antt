-- `text_in::inner::text_after` meets its contract. Assumes nothing.
use mathlib.Core.Path.{ap, ◌∙◌}
use Prim.Native.Nat.{ℕ, ◌-◌}
use native.Mathlib.Omega.{arith}
use lib.ListN.{length, take, drop}
use Rattle.text_in.proofs.Parts.{past_le, cut_after}
use Rattle.text_in.proofs.inner.text_after.Goals as goal

pub slice_bounds-result-count : goal.slice_bounds-result-count
slice_bounds-result-count c = omega (arith, c.past-begin.ensures, past_le c.args.mark c.args.s.now)

pub returns : goal.returns
returns c =
    let f = c in
    let s = f.args.s.now in
    ap (λ (k : ℕ). take (length s - k) (drop k s)) f.past-begin.ensures ∙ cut_after f.args.mark s

pub slice_bounds-result-start : goal.slice_bounds-result-start
slice_bounds-result-start c = omega (arith, c.past-begin.ensures, past_le c.args.mark c.args.s.now)
