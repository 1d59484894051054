-- `chess::square::Square::all` meets its contract: the named constants are compared with their numbers, once. Assumes nothing.
use mathlib.Core.Path.{refl}
use Rattle.laws.specs.Tables.{tabulate}
use Rattle.chess.proofs.square.Square.all.Goals as goal

pub returns : goal.returns
unfolding tabulate
returns c = refl
