use Rattle.fit_adam.specs.Adam.{first_at, second_at, weight_stepped}
use Rattle.fit_adam.specs.Promises.{fit_from}
use Rattle.fit_adam.proofs.Places.{Turned}
use Rattle.fit_adam.proofs.inner.walk.Given as goal

abbrev pub invariant-loop-i : goal.invariant-loop-i
invariant-loop-i l =
    Turned (first_at l.gradient (fit_from l.initial.m l.initial.v l.initial.weights)) l.i l.initial.m l.m
    × Turned (second_at l.gradient (fit_from l.initial.m l.initial.v l.initial.weights)) l.i l.initial.v l.v
    × Turned (weight_stepped l.powers.first l.powers.second l.rate l.gradient (fit_from l.initial.m l.initial.v l.initial.weights)) l.i l.initial.weights l.weights
