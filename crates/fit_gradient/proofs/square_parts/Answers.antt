-- `fit_gradient::square_parts` meets its contract. Assumes nothing.
use mathlib.Core.Path.{refl}
use lib.Ieee.{of_bits, neg}
use Rattle.fit_gradient.proofs.square_parts.Goals as goal

pub returns : goal.returns
unfolding of_bits neg
returns c = refl
