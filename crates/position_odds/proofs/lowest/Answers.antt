-- `position_odds::lowest` meets its contract. Assumes nothing.
use native.Mathlib.Omega.{arith}
use Rattle.position_odds.proofs.Named.{lowest_small}
use Rattle.position_odds.proofs.lowest.Goals as goal

pub overflow_cast-result : goal.overflow_cast-result
overflow_cast-result c = omega (arith, lowest_small c.args.b, c.scan.ensures)
