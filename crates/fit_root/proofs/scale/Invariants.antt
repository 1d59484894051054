use Rattle.std.proofs.Common.{◌≡◌, ◌*◌, ◌^◌, ◌<◌, ◌≤◌}
use Rattle.fit_root.proofs.scale.Given as goal

abbrev pub invariant-loop-m : goal.invariant-loop-m
invariant-loop-m l = (l.m * 2 ^ l.e ≡ l.x * 2 ^ 60) × (0 < l.x) × (l.m < 2 ^ 53) × (8 ≤ l.e) × (l.e ≤ 60)

abbrev pub decreases-loop-m : goal.decreases-loop-m
decreases-loop-m l = l.e
