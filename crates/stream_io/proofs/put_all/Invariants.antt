use Rattle.std.proofs.Common.{◌-◌, ◌^◌, ◌<◌, ◌≤◌, length, take}
use Rattle.std.specs.Io.KnownBytes.{Appends}
use Rattle.stream_io.proofs.put_all.Given as goal

abbrev pub invariant-loop-turns : goal.invariant-loop-turns
invariant-loop-turns g l = (l.done ≤ length l.bytes) × (l.turns ≤ 2 ^ 62)
    × (length l.bytes < 2 ^ 63 → Appends (g.W.Write.contents l.initial.to) (g.W.Write.contents l.to) (take l.done l.bytes))

abbrev pub decreases-loop-turns : goal.decreases-loop-turns
decreases-loop-turns g l = 2 ^ 62 - l.turns
