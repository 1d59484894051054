-- `exchange_told::none` meets its contract. Assumes nothing.
use mathlib.Core.Path.{refl}
use Rattle.exchange.specs.Listed.{column}
use Rattle.exchange_told.proofs.none.Goals as goal

pub returns : goal.returns
unfolding column
returns c = (refl, refl, refl, refl)
