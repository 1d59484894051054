use mathlib.Core.Path.{◌≡◌}
use lib.ListN.{length}
use Rattle.text_in.specs.Text.{is_blank, without}
use Rattle.text_in.proofs.inner.skip_blanks.Given as goal

abbrev pub invariant-loop-t : goal.invariant-loop-t
invariant-loop-t l = without is_blank l.s ≡ without is_blank l.t

abbrev pub decreases-loop-t : goal.decreases-loop-t
decreases-loop-t l = length l.t
