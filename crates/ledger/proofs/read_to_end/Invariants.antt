use Rattle.std.proofs.Common.{◌-◌, ◌^◌, ◌≤◌}
use Rattle.ledger.proofs.read_to_end.Given as goal

abbrev pub invariant-loop-profile : goal.invariant-loop-profile
invariant-loop-profile g l = l.turns ≤ 2 ^ 62

abbrev pub decreases-loop-profile : goal.decreases-loop-profile
decreases-loop-profile g l = 2 ^ 62 - l.turns
