use mathlib.Core.Path.{◌≡◌}
use Prim.Native.Nat.{ℕ, ◌+◌, ◌*◌, ◌^◌, ◌<◌, ◌≤◌}
use lib.ListN.{length}
use Rattle.laws.specs.Sums.{counted}
use Rattle.bits.specs.Bitboard.{has, how_many, squares}
use Rattle.attack.specs.Attacks.{attacks}
use Rattle.trace_mobility.proofs.inner.one_by_one.Given as goal

-- how many squares a piece on s attacks
abbrev pub reach : ℕ → ℕ → ℕ → ℕ → ℕ
reach kind colour occ s = how_many 64 (has (attacks kind colour s occ))

abbrev pub invariant-loop-s : goal.invariant-loop-s
invariant-loop-s l =
    (l.rest < 2 ^ 64)
    × (counted (reach l.kind l.color l.occupied) l.sum (squares l.rest) ≡ counted (reach l.kind l.color l.occupied) 0 (squares l.pieces))
    × (l.sum + 64 * length (squares l.rest) ≤ 4096)

abbrev pub decreases-loop-s : goal.decreases-loop-s
decreases-loop-s l = length (squares l.rest)
