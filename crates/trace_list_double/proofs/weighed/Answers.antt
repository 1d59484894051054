-- `trace_list_double::weighed` meets its contract. Assumes nothing.
use Prim.Native.Nat.{◌+◌, ◌*◌}
use native.Mathlib.Omega.{arith}
use Rattle.trace_list_double.proofs.Colours.{by_sign}
use Rattle.trace_list_double.proofs.weighed.Goals as goal

pub returns : goal.returns
returns c =
    let a = c.args in
    let at = 128 * c.index.result + c.index-2.result in
    by_sign a.squares.now a.x a.score a.kind a.square a.color at (at + 64) c.requires.2 c.requires.3
    (omega (arith, c.index.ensures, c.index-2.ensures)) (omega arith)
    c.sign.result c.sign.ensures
