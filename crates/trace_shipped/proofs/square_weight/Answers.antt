-- `trace_shipped::square_weight` meets its contract. Assumes nothing.
use mathlib.Core.Path.{ap}
use lib.Ieee.{of_int, binary64}
use Rattle.trace_shipped.proofs.Weighed.{weighs}
use Rattle.trace_shipped.proofs.square_weight.Goals as goal

pub returns : goal.returns
returns c =
    ap (of_int binary64)
    (weighs c.args.pst.now c.args.place c.white.result c.weight.result c.requires.1 c.requires.0
    c.white.ensures c.weight.ensures)
