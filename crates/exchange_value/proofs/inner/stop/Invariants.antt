use Rattle.std.proofs.Common.{◌≡◌, ◌≤◌}
use Rattle.exchange_value.proofs.Backward.{gain}
use Rattle.exchange_value.proofs.Earliest as Earliest
use Rattle.exchange_value.proofs.inner.stop.Given as goal

abbrev pub invariant-loop-k : goal.invariant-loop-k
invariant-loop-k l = (1 ≤ l.k) × (l.pays ≡ gain l.values l.k) × (l.pays ≤ 65535) × (l.found ≡ Earliest.found l.values l.k)
