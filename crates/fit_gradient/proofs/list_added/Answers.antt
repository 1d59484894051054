-- `fit_gradient::list_added` meets its contract. The loop's invariant: the sums have the entries passed in them. Assumes nothing.
use mathlib.Core.Path.{refl, ap, ◌∙◌}
use mathlib.Core.List.{[], ◌∷◌}
use Prim.Native.Nat.{◌*◌}
use native.Mathlib.Omega.{arith}
use Rattle.trace_list.proofs.Tests.{place_is}
use Rattle.trace_list.proofs.There.{is_listed, place_below}
use Rattle.trace_list.proofs.Folds.{fold_none, fold_more}
use Rattle.fit_gradient.specs.Lists.{mark_one}
use Rattle.fit_gradient.proofs.Pairs.{paired}
use Rattle.fit_gradient.proofs.list_added.Goals as goal

pub loop-i-init : goal.loop-i-init
loop-i-init c =
    ((is_listed c.args.used c.args.bytes.now c.requires.1).few, fold_none c.args.bytes.now (mark_one c.args.parts) c.args.gradient.now)

pub raise-requires : goal.raise-requires
raise-requires c =
    let l = c.loop-i in
    let bs = c.args.bytes.now in
    let at = place_is bs l.i (3 * l.i) refl c.entry-k.ensures in
    let h = place_below c.args.used bs (is_listed c.args.used bs c.requires.1) l.i c.loop-i-test.true in
    (omega arith, omega (arith, at, h))

pub loop-i-preserved : goal.loop-i-preserved
loop-i-preserved c =
    let l = c.loop-i in
    let bs = c.args.bytes.now in
    let at = place_is bs l.i (3 * l.i) refl c.entry-k.ensures in
    let h = place_below c.args.used bs (is_listed c.args.used bs c.requires.1) l.i c.loop-i-test.true in
    let m = c.raise in
    let p = c.args.parts in
    let o = p.white_opening ∷ p.black_opening ∷ [] in
    let d = p.white_ending ∷ p.black_ending ∷ [] in (
      l.invariant.0,
      fold_more bs (mark_one c.args.parts) c.args.gradient.now l.i l.invariant.1
          (paired o d l.gradient _ c.entry-k.result m.ensures.0 ∙ ap (mark_one p l.gradient) at),
    )
