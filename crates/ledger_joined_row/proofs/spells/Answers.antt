-- `ledger_joined_row::spells` meets its contract. Assumes nothing.
use mathlib.Core.Path.{ap, ◌∙◌}
use Rattle.laws.specs.Tests.{same}
use Rattle.text_out.proofs.Added.{length_20}
use Rattle.ledger_joined_row.proofs.Laws.{taken_is, zero_and}
use Rattle.ledger_joined_row.proofs.spells.Goals as goal

pub returns : goal.returns
returns c =
    let a = c.args in
    c.is.ensures ∙ ap (same a.s.now) (taken_is c.write_number-k.ensures (zero_and (length_20 a.n)))
