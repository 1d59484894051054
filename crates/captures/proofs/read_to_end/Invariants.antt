use Rattle.std.proofs.Common.{◌-◌, ◌^◌, ◌≤◌}
use Rattle.captures.proofs.read_to_end.Given as goal

abbrev pub invariant-loop-mode : goal.invariant-loop-mode
invariant-loop-mode l = l.turns ≤ 2 ^ 62

abbrev pub decreases-loop-mode : goal.decreases-loop-mode
decreases-loop-mode l = 2 ^ 62 - l.turns
