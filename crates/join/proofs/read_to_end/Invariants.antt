use Rattle.std.proofs.Common.{◌-◌, ◌^◌, ◌≤◌}
use Rattle.join.proofs.read_to_end.Given as goal

abbrev pub invariant-loop-state : goal.invariant-loop-state
invariant-loop-state g l = l.turns ≤ 2 ^ 62

abbrev pub decreases-loop-state : goal.decreases-loop-state
decreases-loop-state g l = 2 ^ 62 - l.turns
