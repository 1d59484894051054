use Rattle.std.proofs.Common.{◌≡◌, length}
use Rattle.replay_fits.proofs.answer_all.Given as goal

abbrev pub invariant-loop-rest : goal.invariant-loop-rest
invariant-loop-rest g l = (length l.sums ≡ length l.initial.sums) × (length l.first ≡ length l.initial.first) × (length l.second ≡ length l.initial.second) × (length l.weights ≡ length l.initial.weights)

abbrev pub decreases-loop-rest : goal.decreases-loop-rest
decreases-loop-rest g l = length l.rest
