-- `trace_list_turn::mark` meets its contract. The loop's invariant: the entries are those of the list's part that is passed. Assumes nothing.
use mathlib.Core.Path.{refl, ap, ◌∙◌}
use Prim.Native.Nat.{◌*◌}
use native.Mathlib.Omega.{arith}
use lib.ListN.{length}
use Rattle.trace_list.proofs.Tests.{place_is}
use Rattle.trace_list.proofs.There.{is_listed, place_below}
use Rattle.trace_list.proofs.Flat.{flat_length}
use Rattle.trace_list_turn.proofs.Ways.{flat_start, flat_on}
use Rattle.trace_list_turn.proofs.mark.Goals as goal

pub loop-i-init : goal.loop-i-init
loop-i-init c = ((is_listed c.args.used c.args.bytes.now c.requires.0).few, flat_start c.args.bytes.now c.requires.1)

pub slice_set_of-entries : goal.slice_set_of-entries
slice_set_of-entries c =
    let l = c.loop-i in
    let bs = c.args.bytes.now in
    let at = place_is bs l.i (3 * l.i) refl c.entry-k.ensures in
    let h = place_below c.args.used bs (is_listed c.args.used bs c.requires.0) l.i c.loop-i-test.true in
    omega (arith, at, h, ap length l.invariant.1 ∙ flat_length _)

pub loop-i-preserved : goal.loop-i-preserved
loop-i-preserved c =
    let l = c.loop-i in
    let bs = c.args.bytes.now in
    let at = place_is bs l.i (3 * l.i) refl c.entry-k.ensures in
    let h = place_below c.args.used bs (is_listed c.args.used bs c.requires.0) l.i c.loop-i-test.true in
    (l.invariant.0, flat_on bs l.i at h l.invariant.1)
