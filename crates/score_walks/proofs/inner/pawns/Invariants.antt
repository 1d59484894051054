use Prim.Native.Nat.{ℕ}
use lib.ListN.{length}
use Rattle.chess.specs.Squares.{flip_of}
use Rattle.bits.specs.Bitboard.{squares}
use Rattle.score_weights.specs.PrivatePacked.{packed_at}
use Rattle.score_walks.proofs.Kept as kept
use Rattle.score_walks.proofs.inner.pawns.Given as goal

abbrev pub word_of : ℕ → ℕ → ℕ
word_of colour s = packed_at 0 (flip_of s colour)

abbrev pub invariant-loop-square : goal.invariant-loop-square
invariant-loop-square l = kept.Kept 1099768529141 (word_of l.color) l.pieces l.words l.rest

abbrev pub decreases-loop-square : goal.decreases-loop-square
decreases-loop-square l = length (squares l.rest)
