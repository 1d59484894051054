-- `exchange::inner::follow` meets its contract. The loop's invariant: the first n captures stand in the arrays, zeros after them, and those to come
-- are the ones that the definition has from here on. Assumes nothing.
use mathlib.Core.Path.{◌≡◌}
use native.Mathlib.Omega.{arith}
use Rattle.exchange.proofs.Listing.{listing_first, listing_more, listing_stops, listing_full, by_other}
use Rattle.exchange.proofs.inner.follow.Goals as goal

pub loop-n-init : goal.loop-n-init
loop-n-init c =
    let a = c.args in
    let b = a.begun in
    listing_first a.mode a.kinds.now a.bitboards.now a.to a.from b.kind b.taken b.there c.other-color.result b.last

pub returns-in_default : goal.returns-in_default
returns-in_default c =
    let a = c.args in
    by_other a.mode a.kinds.now a.bitboards.now a.to a.side a.from a.begun c.other-color.ensures
    (listing_stops a.mode a.kinds.now a.bitboards.now a.to c.loop-n.invariant c.capturer-a.result c.capturer-a.ensures c.in_default.is)

pub loop-n-preserved : goal.loop-n-preserved
loop-n-preserved c =
    let a = c.args in
    listing_more a.mode a.kinds.now a.bitboards.now a.to c.loop-n.invariant c.loop-n-test.true c.in-Some.square c.in-Some.kind
    c.capturer-a.result c.capturer-a.ensures c.in-Some.is c.make-made.result c.make-made.ensures

pub returns : goal.returns
returns c =
    let a = c.args in
    let e : c.loop-n.n ≡ 32 = omega arith in
    rw e at (by_other a.mode a.kinds.now a.bitboards.now a.to a.side a.from a.begun c.other-color.ensures
    (listing_full a.mode a.kinds.now a.bitboards.now a.to c.loop-n.invariant (omega arith)))
