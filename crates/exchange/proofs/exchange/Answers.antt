-- `exchange::exchange` meets its contract. Assumes nothing.
use mathlib.Core.Path.{◌∙◌}
use mir.Syntax.{w16, w32}
use mir.Facts.{to_z-of_z}
use Rattle.exchange.proofs.Settling.{within, settles, in_16}
use borrow.Author.Rules.{sfits_of}
use Rattle.exchange.proofs.exchange.Goals as goal

pub slice_bounds-settle-end : goal.slice_bounds-settle-end
slice_bounds-settle-end c =
    let a = c.args in
    within a.mode a.kinds.now a.bitboards.now a.board.now a.state a.from a.to c.list-listed.result.count c.list-listed.result.taken
    c.list-listed.ensures.0 c.list-listed.ensures.3

pub overflow_cast-result : goal.overflow_cast-result
overflow_cast-result c =
    let a = c.args in
    in_16 a.mode a.kinds.now a.bitboards.now a.board.now a.state a.from a.to _
    (to_z-of_z {w = w32} {z = c.settle.result} (sfits_of c.settle.type_inv)
    ∙ settles a.mode a.kinds.now a.bitboards.now a.board.now a.state a.from a.to c.list-listed.result.count
    c.list-listed.result.taken c.list-listed.ensures.0 c.list-listed.ensures.3
    c.settle.result c.settle.ensures)

pub returns : goal.returns
returns c =
    let a = c.args in
    let e =
    to_z-of_z {w = w32} {z = c.settle.result} (sfits_of c.settle.type_inv)
    ∙ settles a.mode a.kinds.now a.bitboards.now a.board.now a.state a.from a.to c.list-listed.result.count
    c.list-listed.result.taken c.list-listed.ensures.0 c.list-listed.ensures.3
    c.settle.result c.settle.ensures in
    to_z-of_z {w = w16} (in_16 a.mode a.kinds.now a.bitboards.now a.board.now a.state a.from a.to _ e) ∙ e
