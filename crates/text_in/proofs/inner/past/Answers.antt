-- `text_in::inner::past` meets its contract. Assumes nothing.
use mathlib.Core.Path.{sym, ◌∙◌, ap}
use native.Mathlib.Omega.{arith}
use Prim.Native.Nat.{ℕ, ◌+◌, ◌≤◌}
use lib.ListN.{length}
use Rattle.text_in.proofs.Parts.{before_found, past_none, past_there}
use Rattle.text_in.proofs.inner.past.Goals as goal

pub returns-then-end-s : goal.returns-then-end-s
returns-then-end-s c =
    let f = c in
    let s = f.args.s.now in
    c.if-end-s.true ∙ past_none f.args.mark s (sym f.find-end.ensures ∙ c.if-end-s.true)

pub overflow_add-result : goal.overflow_add-result
overflow_add-result c =
    let found : c.find-end.result ≤ length c.args.s.now = let args = c.args in
    before_found args.mark args.s.now c.find-end.ensures in
    omega (arith, found)

pub returns : goal.returns
returns c =
    let found : c.find-end.result ≤ length c.args.s.now = let args = c.args in
    before_found args.mark args.s.now c.find-end.ensures in
    let f = c in
    let s = f.args.s.now in
    ap (λ (k : ℕ). k + 1) f.find-end.ensures ∙ past_there f.args.mark s (omega (arith, found, f.find-end.ensures))
