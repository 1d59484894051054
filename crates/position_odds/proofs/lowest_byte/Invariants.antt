use Rattle.position_consistent.specs.Consistent.{agrees}
use Rattle.position_odds.proofs.Named.{Tried}
use Rattle.position_odds.proofs.lowest_byte.Given as goal

abbrev pub invariant-loop-k : goal.invariant-loop-k
invariant-loop-k l = Tried (agrees l.bitboards l.board) l.k
