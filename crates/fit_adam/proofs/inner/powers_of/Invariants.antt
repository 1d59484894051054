use mathlib.Core.Path.{◌≡◌}
use Rattle.fit_adam.specs.Adam.{beta1, beta2, power}
use Rattle.fit_adam.proofs.inner.powers_of.Given as goal

abbrev pub invariant-loop : goal.invariant-loop
invariant-loop l = (l.first ≡ power beta1 l.counter) × (l.second ≡ power beta2 l.counter)
