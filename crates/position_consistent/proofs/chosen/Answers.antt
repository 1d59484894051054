-- `position_consistent::chosen` meets its contract. Assumes nothing.
use mathlib.Core.Path.{sym, ap}
use mathlib.Core.Bool.{Bool, cond}
use Rattle.bits.proofs.Machine.{is_clear, is_there}
use Rattle.position_consistent.proofs.chosen.Goals as goal

pub returns-then-code-digit-ne0 : goal.returns-then-code-digit-ne0
returns-then-code-digit-ne0 c =
    let a = c.args in
    sym (ap (λ (t : Bool). cond t a.board 0) (is_there a.code a.digit c.if-code-digit-ne0.true))

pub returns : goal.returns
returns c =
    let a = c.args in
    sym (ap (λ (t : Bool). cond t a.board 0) (is_clear a.code a.digit c.if-code-digit-ne0.false))
