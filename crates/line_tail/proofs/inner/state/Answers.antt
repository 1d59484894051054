-- `inner::state` meets its contract. Assumes nothing.
use Rattle.line_tail.proofs.Tails.{state_is}
use Rattle.line_tail.proofs.inner.state.Goals as goal

pub returns : goal.returns
returns c =
    let a = c.args in
    state_is a.side a.letters.now a.name.now a.halfmoves.now a.moves.now
    c.rights-rights.result c.passant-passant.result c.counter_or.result c.counter_or-2.result
    c.rights-rights.ensures c.passant-passant.ensures c.counter_or.ensures c.counter_or-2.ensures
