-- Each public function is determined by its promise: two results that it allows are equal. Assumes nothing.
use mathlib.Core.Path.{◌≡◌}
use Prim.Native.Nat.{ℕ}
use Rattle.refusal.proofs.Paper.{one}
use Rattle.score_walks.specs.Promises.{WalksPawns, WalksKnights, WalksBishops, WalksRooks, WalksQueens, WalksKings}
use Rattle.score_walks.specs.declared.Walked.{Walked}

pub inner_pawns : (pieces colour r s : ℕ) → WalksPawns pieces colour r → WalksPawns pieces colour s → r ≡ s
inner_pawns pieces colour r s = one

pub inner_knights : (pieces colour : ℕ) (r s : Walked) → WalksKnights pieces colour r → WalksKnights pieces colour s → r ≡ s
inner_knights pieces colour r s = one

pub inner_bishops : (pieces colour occ : ℕ) (r s : Walked) → WalksBishops pieces colour occ r → WalksBishops pieces colour occ s → r ≡ s
inner_bishops pieces colour occ r s = one

pub inner_rooks : (pieces colour occ : ℕ) (r s : Walked) → WalksRooks pieces colour occ r → WalksRooks pieces colour occ s → r ≡ s
inner_rooks pieces colour occ r s = one

pub inner_queens : (pieces colour occ : ℕ) (r s : Walked) → WalksQueens pieces colour occ r → WalksQueens pieces colour occ s → r ≡ s
inner_queens pieces colour occ r s = one

pub inner_kings : (pieces colour r s : ℕ) → WalksKings pieces colour r → WalksKings pieces colour s → r ≡ s
inner_kings pieces colour r s = one
