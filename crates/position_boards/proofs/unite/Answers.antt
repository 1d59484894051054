-- `position_boards::unite` meets its contract: after n kinds, `all` is the squares of the colour's n boards. Assumes nothing.
use mathlib.Core.Path.{◌∙◌}
use Prim.Native.Nat.{◌+◌, ◌*◌}
use native.Mathlib.Numerals.{add-one}
use native.Mathlib.Omega.{arith}
use Rattle.position_boards.proofs.Crowded.{none_of_colour, colour_more, all_six}
use Rattle.position_boards.proofs.unite.Goals as goal

pub loop-n-init : goal.loop-n-init
loop-n-init c = none_of_colour c.args.bitboards.now c.args.color

pub loop-n-preserved : goal.loop-n-preserved
loop-n-preserved c =
    let l = c.loop-n in
    let a = c.args in
    let f = c.type_inv.bitboards (2 + 2 * l.n + a.color) in
    rw (l.invariant, add-one) (colour_more a.bitboards.now a.color l.n f.fits)

pub returns : goal.returns
returns c =
    let l = c.loop-n in
    let a = c.args in
    l.invariant ∙ all_six a.bitboards.now a.color l.n (omega arith)
