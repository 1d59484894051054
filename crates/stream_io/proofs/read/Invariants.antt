use Rattle.std.proofs.Common.{◌≡◌, ◌-◌, ◌^◌, ◌<◌, ◌≤◌, length}
use Rattle.std.specs.Io.KnownBytes.{Keeps}
use Rattle.stream_io.proofs.read.Given as goal

abbrev pub invariant-loop-turns : goal.invariant-loop-turns
invariant-loop-turns g l = (l.turns ≤ 2 ^ 62) × (length l.buf ≡ length l.initial.buf)
    × (length l.initial.buf < 2 ^ 63 → Keeps (g.R.Read.remaining l.initial.from) (g.R.Read.remaining l.from))

abbrev pub decreases-loop-turns : goal.decreases-loop-turns
decreases-loop-turns g l = 2 ^ 62 - l.turns
