-- `places::phase::Phase::all` meets its contract: the named constants are compared with their numbers, once. Assumes nothing.
use mathlib.Core.Path.{refl}
use Rattle.laws.specs.Tables.{tabulate}
use Rattle.places.proofs.phase.Phase.all.Goals as goal

pub returns : goal.returns
unfolding tabulate
returns c = refl
