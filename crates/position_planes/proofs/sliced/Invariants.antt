use lib.ListN.{get_or}
use Rattle.position_planes.specs.PrivatePlanes.{Sliced}
use Rattle.position_planes.proofs.sliced.Given as goal

abbrev pub invariant-loop-rank : goal.invariant-loop-rank
invariant-loop-rank l = Sliced (λ i. get_or l.words i 0) l.rank l.a l.b l.c l.d l.all
