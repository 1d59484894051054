-- `trace_list_computed::listed` meets its contract. Assumes nothing.
use mathlib.Core.Path.{ap, ◌∙◌}
use native.Mathlib.Omega.{arith}
use lib.ListN.{length}
use Rattle.trace_list.specs.Form.{list_bytes}
use Rattle.trace_list_computed.proofs.Squares.{none_before, all_before}
use Rattle.trace_list_computed.proofs.listed.Goals as goal

pub kind_listed-pawns-requires : goal.kind_listed-pawns-requires
kind_listed-pawns-requires c =
    let n = none_before c.args.bitboards.now c.requires.1 in
    (omega arith, c.requires.0, n.0, n.1)

pub returns : goal.returns
returns c =
    let bbs = c.args.bitboards.now in
    (c.kind_listed.ensures.0 ∙ ap length (all_before bbs), c.kind_listed.ensures.1 ∙ ap list_bytes (all_before bbs))
