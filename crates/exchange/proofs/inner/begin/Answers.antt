-- `exchange::inner::begin` meets its contract. Assumes nothing.
use mathlib.Core.Path.{sym, ap, ◌∙◌}
use Prim.Native.Nat.{ℕ}
use Rattle.exchange_start.specs.Capture.{passed_pawn}
use Rattle.exchange.specs.Exchange.{emptied}
use Rattle.exchange.proofs.First.{passing_there, all_there, pawn_taken, target_taken, begins}
use Rattle.exchange.proofs.inner.begin.Goals as goal

pub returns-then-takes_passing : goal.returns-then-takes_passing
returns-then-takes_passing c =
    let a = c.args in
    let e = sym c.takes_passing.ensures ∙ c.if-takes_passing.true in
    begins a.mode a.bitboards.now a.board.now a.state a.from a.to
    c.kind_on-kind.result 0 c.without_passed.result c.promotes-promoted.result c.kind_on-kind.ensures c.promotes-promoted.ensures
    (pawn_taken a.mode a.bitboards.now a.board.now a.state a.from a.to e)
    (c.without_passed.ensures ∙ ap (λ (x : ℕ). emptied x (passed_pawn a.state.side a.to)) c.occupied-all.ensures
    ∙ passing_there a.mode a.bitboards.now a.board.now a.state a.from a.to e)
    c.worth.result c.becomes.result c.without.result c.worth.ensures c.becomes.ensures c.without.ensures

pub returns : goal.returns
returns c =
    let a = c.args in
    let e = sym c.takes_passing.ensures ∙ c.if-takes_passing.false in
    begins a.mode a.bitboards.now a.board.now a.state a.from a.to
    c.kind_on-kind.result c.kind_on.result c.occupied-all.result c.promotes-promoted.result c.kind_on-kind.ensures c.promotes-promoted.ensures
    (c.kind_on.ensures ∙ target_taken a.mode a.bitboards.now a.board.now a.state a.from a.to e)
    (c.occupied-all.ensures ∙ all_there a.mode a.bitboards.now a.board.now a.state a.from a.to e)
    c.worth-2.result c.becomes-2.result c.without-2.result c.worth-2.ensures c.becomes-2.ensures c.without-2.ensures
