use Rattle.std.proofs.Common.{◌-◌, ◌^◌, ◌≤◌}
use Rattle.error.proofs.read_to_end.Given as goal

abbrev pub invariant-loop-gathered : goal.invariant-loop-gathered
invariant-loop-gathered l = l.turns ≤ 2 ^ 62

abbrev pub decreases-loop-gathered : goal.decreases-loop-gathered
decreases-loop-gathered l = 2 ^ 62 - l.turns
