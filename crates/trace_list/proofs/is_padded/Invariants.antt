use mathlib.Core.Path.{◌≡◌}
use Prim.Native.Nat.{◌+◌, ◌*◌}
use Rattle.laws.specs.Tests.{all_below}
use Rattle.trace_list.specs.Form.{is_unused}
use Rattle.trace_list.proofs.is_padded.Given as goal

abbrev pub invariant-loop-byte : goal.invariant-loop-byte
invariant-loop-byte l = l.good ≡ all_below (3 * l.used + l.byte-index) (is_unused l.used l.bytes)
