use mathlib.Core.Path.{◌≡◌}
use lib.IntN.{pos}
use lib.ListN.{get_or}
use Rattle.laws.specs.Tests.{all_below}
use Rattle.trace_counts.specs.Ranges.{within}
use Rattle.trace_counts.proofs.all_within.Given as goal

abbrev pub invariant-loop-number : goal.invariant-loop-number
invariant-loop-number l = l.good ≡ all_below l.number-index (λ k. within l.most (get_or l.numbers k (pos 0)))
