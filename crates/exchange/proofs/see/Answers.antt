-- `exchange::see` meets its contract. Assumes nothing.
use Rattle.refusal.proofs.Paper.{error_answered}
use mathlib.Core.Path.{ap, ◌∙◌}
use lib.IntN.{ℤ}
use mir.Syntax.{w16}
use mir.Facts.{to_z-of_z}
use Rattle.refusal.specs.Answer.{given}
use Rattle.exchange.specs.Exchange.{exchange_of}
use Rattle.exchange_start.proofs.Begun.{knows, tells, passes_on, a_side, from_on}
use Rattle.exchange.proofs.Room.{room}
use borrow.Author.Rules.{sfits_of}
use Rattle.exchange.proofs.see.Goals as goal

pub returns-in_err-begins : goal.returns-in_err-begins
returns-in_err-begins c =
    let a = c.args in
    error_answered _ _ c.from_residual.ensures ∙ passes_on a.mode a.order.now a.bitboards.now a.board.now a.state a.from a.to c.begins.result c.begins.ensures
    (exchange_of a.mode a.order.now a.bitboards.now a.board.now a.state a.from a.to) _
    c.in_err-begins.was

pub returns : goal.returns
returns c =
    let a = c.args in
    let k = knows a.mode a.order.now a.bitboards.now a.board.now a.state a.from a.to c.begins.result c.begins.ensures
    c.in_ok-begins.was in
    ap (λ (z : ℤ). given z)
    (to_z-of_z {w = w16} {z = c.exchange.result} (sfits_of c.exchange.type_inv)
    ∙ c.exchange.ensures ∙ room a.mode a.order.now a.bitboards.now a.board.now a.state a.from a.to (from_on k) (a_side k)
    k.may k.few)
    ∙ tells a.mode a.order.now a.bitboards.now a.board.now a.state a.from a.to c.begins.result c.begins.ensures
    (exchange_of a.mode a.order.now a.bitboards.now a.board.now a.state a.from a.to) c.in_ok-begins.was
