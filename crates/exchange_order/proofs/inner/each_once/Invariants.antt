use mathlib.Core.Path.{◌≡◌}
use Rattle.exchange_order.proofs.Counted.{packed}
use Rattle.exchange_order.proofs.inner.each_once.Given as goal

abbrev pub invariant-loop-kind : goal.invariant-loop-kind
invariant-loop-kind l = l.counts ≡ packed l.kind-index l.order
