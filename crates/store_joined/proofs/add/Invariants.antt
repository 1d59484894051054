use Rattle.store_joined.proofs.Added.{AddedTo}
use Rattle.store_joined.proofs.add.Given as goal

abbrev pub invariant-loop-place : goal.invariant-loop-place
invariant-loop-place l = AddedTo l.initial.summary l.more l.place l.summary
