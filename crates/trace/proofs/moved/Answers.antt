-- `trace::moved` meets its contract. Assumes nothing.
use Prim.Native.Nat.{ℕ, ◌≤◌}
use Rattle.attack.specs.Attacks.{attacks}
use Rattle.score_tally.specs.Mobility.{attacked}
use Rattle.score_walks.proofs.Rooms.{attacked_le}
use Rattle.trace.proofs.Counted.{held_number}
use Rattle.trace.proofs.Walks.{moved_is}
use Rattle.trace.proofs.moved.Goals as goal

pub whole-requires : goal.whole-requires
whole-requires c =
    let small : c.attacked.result ≤ 4096 = let a = c.args in
    rw c.attacked.ensures (attacked_le (λ (x : ℕ). attacks a.kind a.color x c.occupied.result) c.standing-pieces.result) in
    small

pub returns : goal.returns
returns c =
    let small : c.attacked.result ≤ 4096 = let a = c.args in
    rw c.attacked.ensures (attacked_le (λ (x : ℕ). attacks a.kind a.color x c.occupied.result) c.standing-pieces.result) in
    let a = c.args in
    held_number c.whole.result c.attacked.result (attacked a.bitboards.now a.kind a.color) c.whole.ensures (small)
    (moved_is a.bitboards.now a.kind a.color c.standing-pieces.result c.occupied.result c.attacked.result c.standing-pieces.ensures
    c.occupied.ensures c.attacked.ensures)
