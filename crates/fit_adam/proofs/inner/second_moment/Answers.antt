-- `fit_adam::inner::second_moment` meets its contract. Assumes nothing.
use mathlib.Core.Path.{refl}
use Rattle.fit_adam.specs.Adam.{second_moment}
use Rattle.fit_adam.proofs.inner.second_moment.Goals as goal

pub returns : goal.returns
unfolding second_moment
returns c = refl
