-- `position_boards::shared` meets its contract: after n boards, `once` and `twice` are the squares that one of them has, and that two have.
-- Assumes nothing.
use mathlib.Core.Path.{◌≡◌, ◌∙◌}
use Prim.Native.Nat.{◌+◌}
use native.Mathlib.Numerals.{add-one}
use native.Mathlib.Omega.{arith}
use lib.ListN.{get_or, take, drop}
use Rattle.std.proofs.lemmas.List.{get_or-take, get_or-drop}
use Rattle.position_boards.proofs.Crowded.{none_yet, once_more, twice_more, all_twelve}
use Rattle.position_boards.proofs.shared.Goals as goal

pub loop-b-init : goal.loop-b-init
loop-b-init c = (none_yet c.args.bitboards.now 0, none_yet c.args.bitboards.now 1)

pub loop-b-preserved : goal.loop-b-preserved
loop-b-preserved c =
    let l = c.loop-b in
    let bbs = c.args.bitboards.now in
    let n = l.b-index in
    let f = c.type_inv.bitboards (2 + n) in
    let board : get_or (take 12 (drop 2 bbs)) n 0 ≡ get_or bbs (2 + n) 0 = get_or-take 12 (drop 2 bbs) n 0 (omega arith) ∙ get_or-drop 2 bbs n 0 in
    (rw (board, l.invariant.0, add-one) (once_more bbs n f.fits), rw (board, l.invariant.0, l.invariant.1, add-one) (twice_more bbs n f.fits))

pub returns : goal.returns
returns c =
    let l = c.loop-b in
    let e : l.b-index ≡ 12 = omega arith in
    l.invariant.1 ∙ all_twelve c.args.bitboards.now l.b-index 2 e
