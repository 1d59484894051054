-- How much a board's pieces come to at most: 64 squares attacked by each of 64, and 64 words. Assumes nothing.
use mathlib.Core.List.{List, [], ◌∷◌}
use Prim.Native.Nat.{ℕ, ◌+◌, ◌*◌, ◌≤◌}
use native.Mathlib.Nat.{mul-suc, mul-le-mul, le_refl}
use native.Mathlib.Omega.{arith}
use lib.ListN.{length}
use Rattle.laws.specs.Sums.{counted}
use Rattle.chess.specs.Squares.{flip_of}
use Rattle.bits.specs.Bitboard.{has, how_many, squares}
use Rattle.bits.proofs.Counts.{many_le}
use Rattle.bits.proofs.Squares.{squares_le}
use Rattle.score_weights.specs.PrivatePacked.{packed_at}
use Rattle.score_weights.proofs.Packed.{packed_le}
use Rattle.score_walks.specs.Attacked.{attacked_from}
use Rattle.score_walks.specs.PrivateWalked.{packed_from}

counted_le : (most : ℕ) (f : ℕ → ℕ) → ((s : ℕ) → f s ≤ most) → (l : List ℕ) (a : ℕ) → counted f a l ≤ a + most * length l
unfolding counted
counted_le most f h [] a = omega arith
counted_le most f h (s ∷ l) a = let r = counted_le most f h l (a + f s) in let e = mul-suc most (length l) in let v = h s in omega (arith, r, e, v)

board_le : (most : ℕ) (f : ℕ → ℕ) → ((s : ℕ) → f s ≤ most) → (b : ℕ) → counted f 0 (squares b) ≤ most * 64
board_le most f h b = let l = counted_le most f h (squares b) 0 in let m = mul-le-mul (le_refl most) (squares_le b) in omega (arith, l, m)

pub attacked_le : (attack : ℕ → ℕ) (b : ℕ) → attacked_from attack b ≤ 4096
unfolding attacked_from
attacked_le attack b = board_le 64 (λ s. how_many 64 (has (attack s))) (λ s. many_le 64 (has (attack s))) b

pub words_le : (kind colour b : ℕ) → packed_from kind colour b ≤ 70385185865024
unfolding packed_from
words_le kind colour b = board_le 1099768529141 (λ s. packed_at kind (flip_of s colour)) (λ s. packed_le kind (flip_of s colour)) b
