use mathlib.Core.Path.{◌≡◌}
use Prim.Native.Nat.{◌^◌, ◌<◌}
use lib.ListN.{drop}
use Rattle.exchange_least.specs.Least.{least_of}
use Rattle.exchange_least.specs.PrivateFound.{who_of}
use Rattle.exchange_least.proofs.inner.pick.Given as goal

abbrev pub invariant-loop-i : goal.invariant-loop-i
invariant-loop-i l = (l.found.there < 2 ^ 64) × (who_of l.found ≡ least_of (drop l.i l.kinds) l.bitboards l.color l.attacks l.occupied)
