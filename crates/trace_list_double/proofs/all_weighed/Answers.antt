-- `trace_list_double::all_weighed` meets its contract. The loop's invariant: the score is that of the entries passed. Assumes nothing.
use mathlib.Core.Path.{refl, ap, ◌∙◌}
use Prim.Native.Nat.{◌*◌}
use Rattle.trace_list.proofs.Tests.{place_is}
use Rattle.trace_list.proofs.There.{is_listed}
use Rattle.trace_list.proofs.Folds.{fold_none, fold_more}
use Rattle.trace_list_double.specs.Promises.{weighed}
use Rattle.trace_list_double.proofs.all_weighed.Goals as goal

pub loop-i-init : goal.loop-i-init
loop-i-init c =
    let s = c.args in
    ((is_listed s.used s.bytes.now c.requires.1).few, fold_none s.bytes.now (weighed s.squares.now s.x) s.start)

pub weighed-score-requires : goal.weighed-score-requires
weighed-score-requires c =
    let l = c.loop-i in
    let h = is_listed c.args.used c.args.bytes.now c.requires.1 in
    (c.requires.0, h.kinds l.i c.loop-i-test.true, h.squares l.i c.loop-i-test.true, h.colours l.i c.loop-i-test.true)

pub loop-i-preserved : goal.loop-i-preserved
loop-i-preserved c =
    let l = c.loop-i in
    let s = c.args in
    let f = weighed s.squares.now s.x in (
      l.invariant.0,
      fold_more s.bytes.now f s.start l.i l.invariant.1
          (c.weighed-score.ensures ∙ ap (f l.score) (place_is s.bytes.now l.i (3 * l.i) refl refl)),
    )
