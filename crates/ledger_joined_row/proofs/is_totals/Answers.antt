-- `ledger_joined_row::is_totals` meets its contract. Assumes nothing.
use mathlib.Core.Path.{ap, ◌∙◌}
use Rattle.laws.specs.Tests.{same}
use Rattle.ledger_totals.proofs.Fits.{fits_last}
use Rattle.ledger_joined_row.proofs.Laws.{taken_is}
use Rattle.ledger_joined_row.proofs.is_totals.Goals as goal

pub returns : goal.returns
returns c =
    let a = c.args in
    c.is.ensures
    ∙ ap (same a.row.now) (taken_is c.write_totals-n.ensures (fits_last a.lines a.loaded a.refused))
