use mathlib.Core.Path.{◌≡◌}
use mathlib.Core.Bool.{◌&&◌}
use lib.ListN.{drop}
use Rattle.text_in.specs.Text.{is_text, every}
use Rattle.text_in.proofs.inner.is_text.Given as goal

abbrev pub invariant-loop-b : goal.invariant-loop-b
invariant-loop-b l = every is_text l.s ≡ (l.all && every is_text (drop l.b-index l.s))
