-- `exchange_order::inner::each_once` meets its contract: after some kinds their units are counted. Assumes nothing.
use mathlib.Core.Path.{◌≡◌, ap, ◌∙◌}
use Prim.Native.Nat.{ℕ}
use native.Mathlib.Numerals.{add-one}
use native.Mathlib.Omega.{arith}
use lib.Dec.{eqb}
use lib.ListN.{get_or}
use Rattle.exchange_order.proofs.Counted.{unit_le, packed, packed_none, packed_one, packed_le, counts}
use Rattle.exchange_order.proofs.inner.each_once.Goals as goal

pub loop-kind-init : goal.loop-kind-init
loop-kind-init c = packed_none c.args.order.now

pub overflow_add-counts : goal.overflow_add-counts
overflow_add-counts c =
    let l = c.loop-kind in
    let kinds = c.args.order.now in
    omega (arith, l.invariant, packed_le l.kind-index kinds, c.unit-counts.ensures, unit_le (get_or kinds l.kind-index 0))

pub loop-kind-preserved : goal.loop-kind-preserved
loop-kind-preserved c =
    let l = c.loop-kind in
    rw (c.unit-counts.ensures, l.invariant, add-one) (packed_one l.kind-index c.args.order.now)

pub returns : goal.returns
returns c =
    let l = c.loop-kind in
    let kinds = c.args.order.now in
    let e : l.kind-index ≡ 6 = omega arith in
    ap (λ (n : ℕ). eqb n 1118481) (l.invariant ∙ ap (λ (n : ℕ). packed n kinds) e) ∙ counts kinds
