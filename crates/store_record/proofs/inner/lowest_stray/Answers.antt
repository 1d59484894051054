-- `store_record::inner::lowest_stray` meets its contract: the squares below k have a code. Assumes nothing.
use mathlib.Core.Path.{◌≡◌, sym, ◌∙◌}
use native.Mathlib.Omega.{arith}
use borrow.Author.Tests.{not-true}
use Rattle.position_odds.proofs.Named.{stopped, ended}
use Rattle.store_record.specs.Record.{is_code}
use Rattle.store_record.proofs.inner.lowest_stray.Goals as goal

pub returns-then-not-is_byte : goal.returns-then-not-is_byte
returns-then-not-is_byte c =
    let l = c.loop-k in
    let b = c.args.board.now in
    stopped (is_code b) l.k (omega arith) l.invariant (sym c.is_byte.ensures ∙ not-true c.is_byte.result c.if-not-is_byte.true-raw)

pub returns : goal.returns
returns c =
    let l = c.loop-k in
    let e : l.k ≡ 64 = omega arith in
    sym e ∙ ended (is_code c.args.board.now) l.k e l.invariant
