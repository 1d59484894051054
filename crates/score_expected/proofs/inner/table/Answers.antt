-- `score_expected::inner::table` meets its contract: the constant is the list that the rule builds, compared once. Assumes nothing.
use mathlib.Core.Path.{refl}
use Rattle.score_expected.specs.Expected.{table}
use Rattle.score_expected.proofs.inner.table.Goals as goal

pub returns : goal.returns
unfolding table
returns c = refl
