-- `exchange_least::inner::pick` meets its contract. The loop's invariant: what was found is the least of the kinds from here on. Assumes nothing.
use mathlib.Core.Path.{sym, ap, subst, ◌∙◌}
use Prim.Native.Nat.{◌-◌, ◌^◌, ◌<◌}
use native.Mathlib.Omega.{arith}
use lib.ListN.{get_or}
use Rattle.attack_to.proofs.Checks.{lowest_lt}
use Rattle.exchange_least.specs.PrivateFound.{who_of}
use Rattle.exchange_least.specs.declared.inner.Found.{Found}
use Rattle.exchange_least.proofs.Picked.{before_lt, none_asked, one_more}
use Rattle.exchange_least.proofs.inner.pick.Goals as goal

pub loop-i-init : goal.loop-i-init
loop-i-init c = let a = c.args in
    (omega arith, none_asked a.kinds.now a.bitboards.now a.color a.attacks a.occupied)

pub loop-i-preserved : goal.loop-i-preserved
loop-i-preserved c = let still-there = c.still_there-there in
    let loop = c.loop-i in
    let a = c.args in (
      subst (λ (x : Found). x.there < 2 ^ 64) (sym c.before-found.ensures)
          (before_lt still-there.result (get_or a.kinds.now (loop.i - 1) 0) loop.found still-there.type_inv loop.invariant.0),
      ap who_of c.before-found.ensures
          ∙ one_more a.kinds.now a.bitboards.now a.color a.attacks a.occupied (loop.i - 1) loop.i still-there.result loop.found
          (omega arith) (omega arith) still-there.ensures loop.invariant.1,
    )

pub overflow_cast-result : goal.overflow_cast-result
overflow_cast-result c = let loop = c.loop-i in
    omega (arith, c.scan.ensures, lowest_lt loop.found.there loop.invariant.0 c.if-there-eq0.false)
