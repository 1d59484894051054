-- What each function promises, for all inputs. Definitions only.
use Rattle.std.specs.Prelude.{◌≡◌, ℕ}
use Rattle.score_walks.specs.PrivateWalked.{packed_from, walked_of}
use Rattle.score_walks.specs.declared.Walked.{Walked}

abbrev pub WalksPawns : ℕ → ℕ → ℕ → Type 0
WalksPawns pieces colour r = r ≡ packed_from 0 colour pieces

-- a knight's steps ask nothing of the occupancy
abbrev pub WalksKnights : ℕ → ℕ → Walked → Type 0
WalksKnights pieces colour r = r ≡ walked_of pieces 1 colour 0

abbrev pub WalksBishops : ℕ → ℕ → ℕ → Walked → Type 0
WalksBishops pieces colour occ r = r ≡ walked_of pieces 2 colour occ

abbrev pub WalksRooks : ℕ → ℕ → ℕ → Walked → Type 0
WalksRooks pieces colour occ r = r ≡ walked_of pieces 3 colour occ

abbrev pub WalksQueens : ℕ → ℕ → ℕ → Walked → Type 0
WalksQueens pieces colour occ r = r ≡ walked_of pieces 4 colour occ

abbrev pub WalksKings : ℕ → ℕ → ℕ → Type 0
WalksKings pieces colour r = r ≡ packed_from 5 colour pieces
