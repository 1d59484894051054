-- `fit_adam::inner::walk` meets its contract. The loop's invariant: all three lists are turned up to i. Assumes nothing.
use mathlib.Core.Path.{◌≡◌}
use native.Mathlib.Omega.{arith}
use Rattle.fit_adam.proofs.Places.{one_more, here, all}
use Rattle.fit_adam.proofs.inner.walk.Goals as goal

pub loop-i-preserved : goal.loop-i-preserved
loop-i-preserved c =
    let l = c.loop-i in
    let f = c.first_moment-first in
    let s = c.second_moment-second in
    let a = here l.invariant.0 in
    let b = here l.invariant.1 in
    let d = here l.invariant.2 in
    let first = rw a at f.ensures in
    let second = rw b at s.ensures in (
      one_more l.invariant.0 (omega arith) (omega arith) first,
      one_more l.invariant.1 (omega arith) (omega arith) second,
      one_more l.invariant.2 (omega arith) (omega arith) (rw (first, second, d) at c.moved_weight-weight.ensures),
    )

pub returns : goal.returns
returns c =
    let l = c.loop-i in
    let i : l.i ≡ 779 = omega arith in
    let m = all l.invariant.0 i in
    let v = all l.invariant.1 i in
    let w = all l.invariant.2 i in
    cc
