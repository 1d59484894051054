-- `position_odds::lowest_byte` meets its contract: the bytes below k agree. Assumes nothing.
use mathlib.Core.Path.{◌≡◌, sym, ◌∙◌}
use native.Mathlib.Omega.{arith}
use borrow.Author.Tests.{not-true, not-false}
use Rattle.position_consistent.specs.Consistent.{agrees}
use Rattle.position_odds.proofs.Named.{one_more, stopped, ended}
use Rattle.position_odds.proofs.Parts.{byte_agrees}
use Rattle.position_odds.proofs.lowest_byte.Goals as goal

pub returns-then-not-byte_right : goal.returns-then-not-byte_right
returns-then-not-byte_right c =
    let l = c.loop-k in
    let a = c.args in
    stopped (agrees a.bitboards.now a.board.now) l.k (omega arith) l.invariant
    (sym (byte_agrees a.bitboards.now a.board.now c.occupied-pieces.result l.k (omega arith) c.occupied-pieces.ensures)
    ∙ sym c.byte_right.ensures ∙ not-true c.byte_right.result c.if-not-byte_right.true-raw)

pub loop-k-preserved : goal.loop-k-preserved
loop-k-preserved c =
    let l = c.loop-k in
    let a = c.args in
    one_more (agrees a.bitboards.now a.board.now) l.k l.invariant
    (sym (byte_agrees a.bitboards.now a.board.now c.occupied-pieces.result l.k (omega arith) c.occupied-pieces.ensures)
    ∙ sym c.byte_right.ensures ∙ not-false c.byte_right.result c.if-not-byte_right.false-raw)

pub returns : goal.returns
returns c =
    let l = c.loop-k in
    let a = c.args in
    let e : l.k ≡ 64 = omega arith in
    sym e ∙ ended (agrees a.bitboards.now a.board.now) l.k e l.invariant
