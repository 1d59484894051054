-- `position_consistent::bytes_amiss` meets its contract: after some files, `amiss` is 0 where each of their bytes was right. Assumes nothing.
use mathlib.Core.Path.{refl, ap, ◌∙◌}
use Prim.Native.Nat.{ℕ}
use native.Mathlib.Numerals.{add-one}
use Rattle.laws.specs.Tests.{all_below}
use Rattle.position_consistent.specs.PrivateTested.{file_right}
use Rattle.position_consistent.proofs.Planes.{more_amiss}
use Rattle.position_consistent.proofs.bytes_amiss.Invariants.{right-on}
use Rattle.position_consistent.proofs.bytes_amiss.Goals as goal

pub loop-file-init : goal.loop-file-init
unfolding all_below
loop-file-init c = refl

pub loop-file-preserved : goal.loop-file-preserved
loop-file-preserved c =
    let l = c.loop-file in
    let a = c.args in
    rw add-one (more_amiss (right-on a.board.now a.ones a.twos a.fours a.eights) l.file l.amiss c.file_amiss-amiss.result l.invariant
    (c.file_amiss-amiss.ensures ∙ ap (λ (codes : ℕ). file_right a.board.now codes l.file) c.file_codes-codes.ensures))
