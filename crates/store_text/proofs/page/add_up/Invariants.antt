use Rattle.std.proofs.Common.{◌≡◌, ◌%◌, ◌^◌}
use Rattle.laws.specs.Sums.{sum_n}
use Rattle.store_text.specs.Board.{count_on, most_n}
use Rattle.store_text.proofs.page.add_up.Given as goal

abbrev pub invariant-loop-square : goal.invariant-loop-square
invariant-loop-square l = (l.total ≡ sum_n l.square (count_on l.summary l.piece) % 2 ^ 64) × (l.most ≡ most_n l.square (count_on l.summary l.piece))
