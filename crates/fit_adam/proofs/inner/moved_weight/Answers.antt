-- `fit_adam::inner::moved_weight` meets its contract. Assumes nothing.
use Rattle.fit_adam.specs.Adam.{weight_moved}
use Rattle.fit_adam.proofs.inner.moved_weight.Goals as goal

pub returns : goal.returns
unfolding weight_moved
returns c = simp c.sqrt.ensures
