-- `line_spell::spell::put_ranks` meets its contract: `Down` says what each rank leaves true. Assumes nothing.
use Prim.Native.Nat.{◌-◌}
use native.Mathlib.Omega.{arith}
use Rattle.line_spell.proofs.Joined.{down_room, down_again, down_last}
use Rattle.line_spell.proofs.spell.put_ranks.Goals as goal

pub bounds-line-end : goal.bounds-line-end
bounds-line-end c =
    let a = c.args in
    let p = c.requires in
    let l = c.loop-rank in
    let k = c.put_rank-end in
    down_room a.board.now a.line.now l.line p k.new.line l.end k.result c.line-1.given (l.rank - 1) (omega arith)
    l.invariant.1 k.ensures

pub loop-rank-preserved : goal.loop-rank-preserved
loop-rank-preserved c =
    let a = c.args in
    let p = c.requires in
    let l = c.loop-rank in
    let k = c.put_rank-end in (
      omega arith,
      down_again a.board.now a.line.now l.line p k.new.line l.end k.result c.line-1.given (l.rank - 1) (omega arith)
          l.invariant.1 k.ensures,
    )

pub returns : goal.returns
returns c =
    let a = c.args in
    let p = c.requires in
    let l = c.loop-rank in
    let k = c.put_rank in
    down_last a.board.now a.line.now l.line p k.new.line l.end k.result c.line-2-1.given (l.rank - 1) (omega arith)
    l.invariant.1 k.ensures
