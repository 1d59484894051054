-- `fit_adam::inner::first_moment` meets its contract. Assumes nothing.
use mathlib.Core.Path.{refl}
use Rattle.fit_adam.specs.Adam.{first_moment}
use Rattle.fit_adam.proofs.inner.first_moment.Goals as goal

pub returns : goal.returns
unfolding first_moment
returns c = refl
