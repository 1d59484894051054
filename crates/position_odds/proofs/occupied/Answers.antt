-- `position_odds::occupied` meets its contract: after n boards, `once` is the squares that one of them has. Assumes nothing.
use mathlib.Core.Path.{◌≡◌, ◌∙◌}
use Prim.Native.Nat.{◌+◌}
use native.Mathlib.Numerals.{add-one}
use native.Mathlib.Omega.{arith}
use lib.ListN.{get_or, take, drop}
use Rattle.std.proofs.lemmas.List.{get_or-take, get_or-drop}
use Rattle.position_boards.proofs.Crowded.{none_yet, once_more, all_twelve}
use Rattle.position_odds.proofs.occupied.Goals as goal

pub loop-b-init : goal.loop-b-init
loop-b-init c = none_yet c.args.bitboards.now 0

pub loop-b-preserved : goal.loop-b-preserved
loop-b-preserved c =
    let l = c.loop-b in
    let bbs = c.args.bitboards.now in
    let n = l.b-index in
    let f = c.type_inv.bitboards (2 + n) in
    let board : get_or (take 12 (drop 2 bbs)) n 0 ≡ get_or bbs (2 + n) 0 = get_or-take 12 (drop 2 bbs) n 0 (omega arith) ∙ get_or-drop 2 bbs n 0 in
    rw (board, l.invariant, add-one) (once_more bbs n f.fits)

pub returns : goal.returns
returns c =
    let l = c.loop-b in
    let e : l.b-index ≡ 12 = omega arith in
    l.invariant ∙ all_twelve c.args.bitboards.now l.b-index 1 e
