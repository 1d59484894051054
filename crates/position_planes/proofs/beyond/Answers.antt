-- `position_planes::beyond` meets its contract. The loop's invariant: the digits of the ranks passed are in. Assumes nothing.
use mathlib.Core.Path.{ap, ◌∙◌}
use Prim.Native.Nat.{ℕ}
use Rattle.position_planes.specs.PrivatePlanes.{rank_word, digits_of_rule, high_of}
use Rattle.position_planes.proofs.Planes.{stack_none, stack_next}
use Rattle.position_planes.proofs.beyond.Goals as goal

pub loop-rank-init : goal.loop-rank-init
loop-rank-init c = let a = c.args in stack_none (λ rank. digits_of_rule (high_of (rank_word a.board.now rank)) 4)

pub loop-rank-preserved : goal.loop-rank-preserved
loop-rank-preserved c =
    let l = c.loop-rank in
    let a = c.args in
    stack_next (λ rank. digits_of_rule (high_of (rank_word a.board.now rank)) 4) l.rank l.invariant
    (c.gathered.ensures ∙ ap (λ (x : ℕ). digits_of_rule x 4) (c.high.ensures ∙ ap high_of c.word.ensures.0))
