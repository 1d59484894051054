-- `ledger_joined_row::front` meets its contract. Assumes nothing.
use mathlib.Core.Path.{sym, ◌∙◌}
use native.Mathlib.Omega.{arith}
use Rattle.ledger_row.proofs.Fits.{length_spaced}
use Rattle.ledger_joined_row.proofs.Laws.{front_yes}
use Rattle.ledger_joined_row.proofs.front.Goals as goal

pub returns-then-begins : goal.returns-then-begins
returns-then-begins c =
    let a = c.args in
    front_yes c.spaced-n.ensures (omega (arith, length_spaced a.number)) a.row.now
    (sym c.begins.ensures ∙ c.if-begins.true)
