-- `position_planes::word` meets its contract. The loop's invariant: the bytes of the files passed are in. Assumes nothing.
use Prim.Native.Nat.{◌+◌, ◌*◌}
use lib.ListN.{get_or}
use Rattle.position_planes.proofs.Planes.{stack_none, stack_next, row_none, row_next}
use Rattle.position_planes.proofs.word.Goals as goal

pub loop-file-init : goal.loop-file-init
loop-file-init c = let a = c.args in (stack_none (λ j. get_or a.board.now (8 * a.rank + j) 0), row_none a.board.now a.rank)

pub loop-file-preserved : goal.loop-file-preserved
loop-file-preserved c =
    let l = c.loop-file in
    let a = c.args in
    let w = c.wide.ensures in (
      stack_next (λ j. get_or a.board.now (8 * a.rank + j) 0) l.file l.invariant.0 w.0,
      row_next a.board.now a.rank l.file l.invariant.1 w.1,
    )
