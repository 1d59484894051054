use mathlib.Core.Path.{◌≡◌}
use Rattle.laws.specs.Tests.{all_below}
use Rattle.trace_list.specs.Form.{least_at, comes_after}
use Rattle.trace_list.proofs.is_sorted.Given as goal

abbrev pub invariant-loop-i : goal.invariant-loop-i
invariant-loop-i l = (l.least ≡ least_at l.bytes l.i) × (l.good ≡ all_below l.i (comes_after l.bytes))
