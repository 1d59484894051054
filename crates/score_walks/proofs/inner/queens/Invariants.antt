use Prim.Native.Nat.{ℕ}
use lib.ListN.{length}
use Rattle.chess.specs.Squares.{flip_of}
use Rattle.bits.specs.Bitboard.{has, how_many, squares}
use Rattle.attack.specs.Attacks.{attacks}
use Rattle.score_weights.specs.PrivatePacked.{packed_at}
use Rattle.score_walks.proofs.Kept as kept
use Rattle.score_walks.proofs.inner.queens.Given as goal

-- how many squares a piece on s attacks, and its word
abbrev pub reach : ℕ → ℕ → ℕ → ℕ
reach colour occ s = how_many 64 (has (attacks 4 colour s occ))

abbrev pub word_of : ℕ → ℕ → ℕ
word_of colour s = packed_at 4 (flip_of s colour)

abbrev pub invariant-loop-square : goal.invariant-loop-square
invariant-loop-square l =
    kept.Kept 64 (reach l.color l.occupied) l.pieces l.attacked l.rest × kept.Kept 1099768529141 (word_of l.color) l.pieces l.words l.rest

abbrev pub decreases-loop-square : goal.decreases-loop-square
decreases-loop-square l = length (squares l.rest)
