use mathlib.Core.Path.{◌≡◌}
use Prim.Native.Nat.{◌*◌}
use Rattle.store_record.proofs.Records.{squares_to}
use Rattle.store_record.proofs.inner.unpack.Given as goal

abbrev pub invariant-loop-i : goal.invariant-loop-i
invariant-loop-i l = l.board ≡ squares_to l.piece (2 * l.i)
