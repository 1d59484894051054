use mathlib.Core.Path.{◌≡◌}
use lib.ListN.{drop}
use Rattle.ledger_joined_row.specs.Rows.{comes_to}
use Rattle.ledger_joined_row.proofs.comes_to.Given as goal

abbrev pub invariant-loop-b : goal.invariant-loop-b
invariant-loop-b l = comes_to l.n (drop l.b-index l.s) ≡ comes_to 0 l.s
