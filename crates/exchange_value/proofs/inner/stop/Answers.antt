-- `exchange_value::inner::stop` meets its contract. The loop's invariant: `pays` is what the captures from k on are worth, and `found` the earliest
-- of them that does not pay, 0 for none.
-- Assumes nothing.
use mathlib.Core.Path.{◌≡◌, refl, ap, ◌∙◌}
use Prim.Native.Nat.{◌-◌}
use native.Mathlib.Omega.{arith}
use Rattle.exchange_value.proofs.Backward.{no_gain, back}
use Rattle.exchange_value.proofs.Earliest as Earliest
use Rattle.exchange_value.proofs.Earliest.{none_found, found_back, stop_none, stop_out, stop_at}
use Rattle.exchange_value.proofs.inner.stop.Goals as goal

pub returns-then-values-eq0 : goal.returns-then-values-eq0
returns-then-values-eq0 c = stop_none c.args.values.now c.if-values-eq0.true

pub loop-k-init : goal.loop-k-init
loop-k-init c = let values = c.args.values.now in (omega arith, no_gain values, omega arith, none_found values)

pub loop-k-preserved : goal.loop-k-preserved
loop-k-preserved c =
    let l = c.loop-k in
    let values = c.args.values.now in
    let f = c.type_inv.values (l.k - 1) in
    let e = c.less-pays.ensures ∙ back values l.k l.invariant.0 l.auto.k _ l.pays refl l.invariant.1 in (
      omega arith,
      e,
      omega (arith, c.less-pays.ensures, f),
      c.earlier-found.ensures ∙ found_back values l.k l.invariant.0 l.auto.k _ l.found e l.invariant.3,
    )

pub returns-then-found-eq0 : goal.returns-then-found-eq0
returns-then-found-eq0 c =
    let l = c.loop-k in
    let values = c.args.values.now in
    let e : l.k ≡ 1 = omega arith in
    stop_out values l.found (omega arith) (l.invariant.3 ∙ ap (Earliest.found values) e) c.if-found-eq0.true

pub returns : goal.returns
returns c =
    let l = c.loop-k in
    let values = c.args.values.now in
    let e : l.k ≡ 1 = omega arith in
    stop_at values l.found (omega arith) (l.invariant.3 ∙ ap (Earliest.found values) e) c.if-found-eq0.false
