-- Each public function is determined by its promise: two results that it allows are equal. Assumes nothing.
use mathlib.Core.Path.{◌≡◌}
use Prim.Native.Nat.{ℕ}
use lib.IntN.{ℤ}
use Rattle.refusal.proofs.Paper.{one}
use Rattle.score_weights.specs.Promises.{PacksPawn, PacksKnight, PacksBishop, PacksRook, PacksQueen, PacksKing, SumsOpening, SumsEnding}

pub inner_pawn_word : (square r s : ℕ) → PacksPawn square r → PacksPawn square s → r ≡ s
inner_pawn_word square r s = one

pub inner_knight_word : (square r s : ℕ) → PacksKnight square r → PacksKnight square s → r ≡ s
inner_knight_word square r s = one

pub inner_bishop_word : (square r s : ℕ) → PacksBishop square r → PacksBishop square s → r ≡ s
inner_bishop_word square r s = one

pub inner_rook_word : (square r s : ℕ) → PacksRook square r → PacksRook square s → r ≡ s
inner_rook_word square r s = one

pub inner_queen_word : (square r s : ℕ) → PacksQueen square r → PacksQueen square s → r ≡ s
inner_queen_word square r s = one

pub inner_king_word : (square r s : ℕ) → PacksKing square r → PacksKing square s → r ≡ s
inner_king_word square r s = one

pub inner_opening : (sum : ℕ) (r s : ℤ) → SumsOpening sum r → SumsOpening sum s → r ≡ s
inner_opening sum r s = one

pub inner_ending : (sum : ℕ) (r s : ℤ) → SumsEnding sum r → SumsEnding sum s → r ≡ s
inner_ending sum r s = one
