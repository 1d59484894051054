use Rattle.std.proofs.Common.{◌-◌, ◌^◌, ◌≤◌}
use Rattle.sift_io.proofs.read_to_end.Given as goal

abbrev pub invariant-loop-form : goal.invariant-loop-form
invariant-loop-form l = l.turns ≤ 2 ^ 62

abbrev pub decreases-loop-form : goal.decreases-loop-form
decreases-loop-form l = 2 ^ 62 - l.turns
