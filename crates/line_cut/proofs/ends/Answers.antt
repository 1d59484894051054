-- `line_cut::ends` meets its contract: the loop has counted what ended so far. Assumes nothing.
use mathlib.Core.List.{[], ◌∷◌}
use native.Mathlib.Omega.{arith}
use lib.ListN.{get_or}
use Rattle.line_cut.proofs.Counted.{ends_turn, ends_last, ends_le}
use Rattle.line_cut.proofs.ends.Goals as goal

pub overflow_add-n : goal.overflow_add-n
overflow_add-n c =
    let one = ends_le (get_or c.args.chunk.now c.loop-byte.byte-index 0 ∷ []) in
    record { fits = omega (arith, c.is_end-n.ensures, c.loop-byte.invariant) }

pub loop-byte-preserved : goal.loop-byte-preserved
loop-byte-preserved c =
    let s = c.args.chunk.now in
    let l = c.loop-byte in
    let one = ends_le (get_or s l.byte-index 0 ∷ []) in
    (omega (arith, c.is_end-n.ensures), ends_turn s l.byte-index (omega arith) l.n c.is_end-n.result l.invariant.1 c.is_end-n.ensures)

pub returns : goal.returns
returns c =
    let l = c.loop-byte in
    ends_last c.args.chunk.now l.n l.byte-index (omega arith) l.invariant.1
