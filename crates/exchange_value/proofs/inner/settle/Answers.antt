-- `exchange_value::inner::settle` meets its contract. The loop's invariant: `next` is what the captures from k on are worth, if the first need not be made.
-- Assumes nothing.
use mathlib.Core.Path.{◌≡◌, refl, ap, ◌∙◌}
use Prim.Native.Nat.{◌-◌}
use native.Mathlib.Omega.{arith}
use lib.ListN.{get_or}
use Rattle.exchange_value.proofs.Backward.{gain, no_gain, back, whole, settled_none}
use Rattle.exchange_value.proofs.inner.settle.Goals as goal

pub returns-then-values-eq0 : goal.returns-then-values-eq0
returns-then-values-eq0 c = settled_none c.args.values.now c.if-values-eq0.true

pub loop-k-init : goal.loop-k-init
loop-k-init c = (omega arith, no_gain c.args.values.now, omega arith)

pub loop-k-preserved : goal.loop-k-preserved
loop-k-preserved c =
    let l = c.loop-k in
    let values = c.args.values.now in
    let f = c.type_inv.values (l.k - 1) in (
      omega arith,
      c.less-next.ensures ∙ back values l.k l.invariant.0 l.auto.k _ l.next refl l.invariant.1,
      omega (arith, c.less-next.ensures, f),
    )

pub returns : goal.returns
returns c =
    let l = c.loop-k in
    let values = c.args.values.now in
    let f = c.type_inv.values 0 in
    let e : l.k ≡ 1 = omega arith in
    whole values (get_or values 0 0) l.next (omega arith) (omega (arith, f)) l.invariant.2 refl (l.invariant.1 ∙ ap (gain values) e)
