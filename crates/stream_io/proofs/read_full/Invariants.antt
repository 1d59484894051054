use Rattle.std.proofs.Common.{◌≡◌, ◌-◌, ◌^◌, ◌<◌, ◌≤◌, length, take}
use Rattle.std.specs.Io.KnownBytes.{Consumes}
use Rattle.stream_io.proofs.read_full.Given as goal

abbrev pub invariant-loop-errors : goal.invariant-loop-errors
invariant-loop-errors g l = (l.done ≤ length l.buf) × (l.turns ≤ 2 ^ 62) × (length l.buf ≡ length l.initial.buf)
    × (length l.initial.buf < 2 ^ 63 → Consumes (g.R.Read.remaining l.initial.from) (g.R.Read.remaining l.from) (take l.done l.buf))

abbrev pub decreases-loop-errors : goal.decreases-loop-errors
decreases-loop-errors g l = 2 ^ 62 - l.turns
