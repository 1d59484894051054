use Rattle.position_odds.proofs.Named.{Tried}
use Rattle.store_record.specs.Record.{is_code}
use Rattle.store_record.proofs.inner.lowest_stray.Given as goal

abbrev pub invariant-loop-k : goal.invariant-loop-k
invariant-loop-k l = Tried (is_code l.board) l.k
