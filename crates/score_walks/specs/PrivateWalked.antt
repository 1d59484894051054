-- What the loops over a board's pieces give. Definitions only.
use Rattle.std.specs.Prelude.{ℕ}
use Rattle.laws.specs.Sums.{counted}
use Rattle.chess.specs.Squares.{flip_of}
use Rattle.bits.specs.Bitboard.{squares}
use Rattle.attack.specs.Attacks.{attacks}
use Rattle.score_weights.specs.PrivatePacked.{packed_at}
use Rattle.score_walks.specs.Attacked.{attacked_from}
use Rattle.score_walks.specs.declared.Walked.{Walked}

-- the words of a colour's pieces of a kind, each on its square as its colour sees it
unfoldable pub packed_from : ℕ → ℕ → ℕ → ℕ
unfolding counted squares packed_at
packed_from kind colour pieces = counted (λ s. packed_at kind (flip_of s colour)) 0 (squares pieces)

-- and what they attack, where occ is occupied
abbrev pub walked_of : ℕ → ℕ → ℕ → ℕ → Walked
walked_of pieces kind colour occ = record { attacked = attacked_from (λ s. attacks kind colour s occ) pieces; words = packed_from kind colour pieces }
