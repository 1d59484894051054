use mathlib.Core.Path.{◌≡◌}
use Rattle.fit_gradient.specs.Gradient.{first_raised}
use Rattle.fit_gradient.proofs.named_added.Given as goal

abbrev pub invariant-loop-i : goal.invariant-loop-i
invariant-loop-i l = l.gradient ≡ first_raised l.parts l.initial.gradient l.i
