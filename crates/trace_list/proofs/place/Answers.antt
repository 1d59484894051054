-- `trace_list::place` meets its contract. Assumes nothing.
use mathlib.Core.Path.{refl}
use Prim.Native.Nat.{◌*◌}
use Rattle.trace_list.proofs.Tests.{place_is}
use Rattle.trace_list.proofs.place.Goals as goal

pub returns : goal.returns
returns c =
    let s = c.args in
    (place_is s.bytes.now s.i (3 * s.i) refl c.place_of.ensures.0, c.place_of.ensures.1)
