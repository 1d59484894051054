-- `score_pst::inner::table` meets its contract: antt compares the constant's 1,792 numbers with those that the grids give. Assumes nothing.
use mathlib.Core.Path.{refl}
use Rattle.score_pst.specs.Pst.{pst_table}
use Rattle.score_pst.proofs.inner.table.Goals as goal

pub returns : goal.returns
unfolding pst_table
returns c = refl
