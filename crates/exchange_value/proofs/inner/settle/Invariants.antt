use mathlib.Core.Path.{◌≡◌}
use Prim.Native.Nat.{◌≤◌}
use Rattle.exchange_value.proofs.Backward.{gain}
use Rattle.exchange_value.proofs.inner.settle.Given as goal

abbrev pub invariant-loop-k : goal.invariant-loop-k
invariant-loop-k l = (1 ≤ l.k) × (l.next ≡ gain l.values l.k) × (l.next ≤ 65535)
