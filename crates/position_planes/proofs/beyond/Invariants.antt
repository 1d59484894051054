use mathlib.Core.Path.{◌≡◌}
use Rattle.position_planes.specs.PrivatePlanes.{stack, rank_word, digits_of_rule, high_of}
use Rattle.position_planes.proofs.beyond.Given as goal

abbrev pub invariant-loop-rank : goal.invariant-loop-rank
invariant-loop-rank l = l.plane ≡ stack (λ r. digits_of_rule (high_of (rank_word l.board r)) 4) l.rank
