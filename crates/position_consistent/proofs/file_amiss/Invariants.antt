use mathlib.Core.Path.{◌≡◌}
use lib.Dec.{eqb}
use Rattle.laws.specs.Tests.{all_below}
use Rattle.position_consistent.specs.PrivateTested.{rank_right}
use Rattle.position_consistent.proofs.file_amiss.Given as goal

abbrev pub invariant-loop-rank : goal.invariant-loop-rank
invariant-loop-rank l = eqb l.amiss 0 ≡ all_below l.rank (rank_right l.board l.codes l.file)
