-- `inner::read` meets its contract. Assumes nothing.
use mathlib.Core.Path.{◌∙◌}
use Rattle.line_tail.proofs.Tails.{cut_so}
use Rattle.line_tail.proofs.inner.read.Goals as goal

pub returns : goal.returns
returns c =
    let passant = c in
    let rights = passant in
    let d = rights in
    let k = d in
    let b = k in
    let a = b in
    let x = a.args in
    c.read_words.ensures
    ∙ cut_so x.board.now x.side x.s.now a.rest-a.result.now b.rest-b.result.now k.rest-c.result.now d.rest-d.result.now
    c.rest.result.now rights.first.result.now passant.first-2.result.now c.first-3.result.now c.first-4.result.now
    c.first-5.result.now a.rest-a.ensures b.rest-b.ensures k.rest-c.ensures d.rest-d.ensures c.rest.ensures rights.first.ensures
    passant.first-2.ensures c.first-3.ensures c.first-4.ensures c.first-5.ensures
