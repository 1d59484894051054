-- `position_consistent::file_amiss` meets its contract: after some ranks, `amiss` is 0 where each of their bytes was right. Assumes nothing.
use mathlib.Core.Path.{refl, ap}
use Prim.Native.Nat.{◌+◌, ◌*◌}
use native.Mathlib.Numerals.{add-one}
use lib.Dec.{eqb}
use lib.ListN.{get_or}
use Rattle.laws.specs.Tests.{all_below}
use Rattle.position_consistent.specs.PrivateTested.{rank_right}
use Rattle.position_consistent.proofs.Planes.{byte_amiss}
use Rattle.position_consistent.proofs.file_amiss.Goals as goal

pub loop-rank-init : goal.loop-rank-init
unfolding all_below
loop-rank-init c = refl

pub loop-rank-preserved : goal.loop-rank-preserved
loop-rank-preserved c =
    let l = c.loop-rank in
    let a = c.args in
    let byte = get_or a.board.now (8 * l.rank + a.file) 0 in
    rw add-one (byte_amiss (rank_right a.board.now a.codes a.file) l.rank l.amiss byte c.code_at-code.result l.invariant
    (ap (eqb byte) c.code_at-code.ensures))
