use mathlib.Core.Path.{◌≡◌}
use lib.ListN.{length}
use Rattle.text_in.specs.Text.{is_space, without}
use Rattle.text_in.proofs.inner.skip_spaces.Given as goal

abbrev pub invariant-loop-t : goal.invariant-loop-t
invariant-loop-t l = without is_space l.s ≡ without is_space l.t

abbrev pub decreases-loop-t : goal.decreases-loop-t
decreases-loop-t l = length l.t
