-- Sums over a bitboard's squares are sums over all squares, and these do not change when each square is turned to the other side of the
-- board. Assumes nothing.
use mathlib.Core.Path.{◌≡◌, sym, ap, ap₂, ◌∙◌}
use mathlib.Core.Bool.{Bool, true, false, cond}
use mathlib.Core.List.{◌∷◌}
use Prim.Native.Nat.{ℕ, zero, suc, ◌+◌, ◌*◌, ◌-◌, ◌/◌, ◌%◌, ◌<◌}
use native.Mathlib.Nat.{add-zero, zero-add, add-suc, suc-add}
use native.Mathlib.Omega.{arith}
use lib.Bits.{bit_xor}
use lib.Dec.{eqb, eqb→eq}
use lib.IntN.{ℤ, pos, ◌+ℤ◌, ◌*ℤ◌, +ℤ_assoc, +ℤ_idl, +ℤ_idr, zero-*ℤ}
use Rattle.laws.specs.Tests.{all_below}
use Rattle.laws.specs.Sums.{sum_z, added}
use Rattle.laws.proofs.Tests.{all_at}
use Rattle.laws.proofs.Sums.{whole_same}
use Rattle.laws.proofs.Whole.{once, gated}
use Rattle.laws.proofs.Terms.{sum_front, sum_blocks, sum_back}
use Rattle.bits.specs.Bitboard.{has, digit, squares, squares_from}

-- a digit times a number
pub gate : (t : Bool) (z : ℤ) → pos (digit t) *ℤ z ≡ gated t z
gate true z = once z
gate false z = zero-*ℤ z

-- s xor 56 is the square of the same file on the other side of the board
turned_square : (r j : ℕ) → r < 8 → j < 8 → bit_xor (8 * r + j) 56 ≡ 8 * (7 - r) + j
unfolding all_below
turned_square r j hr hj =
    eqb→eq (bit_xor (8 * r + j) 56) (8 * (7 - (8 * r + j) / 8) + (8 * r + j) % 8)
    (all_at 64 (λ s. eqb (bit_xor s 56) (8 * (7 - s / 8) + s % 8)) tt (8 * r + j) (omega arith))
    ∙ omega arith

pub sum_turned : (f : ℕ → ℤ) → sum_z 64 (λ s. f (bit_xor s 56)) ≡ sum_z 64 f
sum_turned f =
    sum_blocks 8 8 (λ s. f (bit_xor s 56))
    ∙ whole_same 8 (λ r. sum_z 8 (λ j. f (bit_xor (8 * r + j) 56))) (λ r. sum_z 8 (λ j. f (8 * (7 - r) + j)))
    (λ r hr. whole_same 8 (λ j. f (bit_xor (8 * r + j) 56)) (λ j. f (8 * (7 - r) + j)) (λ j hj. ap f (turned_square r j hr hj)))
    ∙ sum_back 7 (λ r. sum_z 8 (λ j. f (8 * r + j)))
    ∙ sym (sum_blocks 8 8 f)

added_from : (n k b : ℕ) (f : ℕ → ℤ) (a : ℤ) → added f a (squares_from n k b) ≡ a +ℤ sum_z n (λ i. gated (has b (k + i)) (f (k + i)))
unfolding added squares_from sum_z
added_from zero k b f a = sym (+ℤ_idr a)
added_from (suc n) k b f a =
    one (λ z. added_from n (suc k) b f z) (has b k)
    ∙ ap (λ (x : ℤ). a +ℤ x)
    (ap₂ ◌+ℤ◌ (ap (λ (s : ℕ). gated (has b s) (f s)) (sym (add-zero k)))
    (whole_same n (λ i. gated (has b (suc k + i)) (f (suc k + i))) (λ i. gated (has b (k + suc i)) (f (k + suc i)))
    (λ i l. ap (λ (s : ℕ). gated (has b s) (f s)) (suc-add k i ∙ sym (add-suc k i))))
    ∙ sym (sum_front n (λ i. gated (has b (k + i)) (f (k + i)))))
  where
    one : ((z : ℤ) → added f z (squares_from n (suc k) b) ≡ z +ℤ sum_z n (λ i. gated (has b (suc k + i)) (f (suc k + i)))) → (t : Bool)
        → added f a (cond t (k ∷ squares_from n (suc k) b) (squares_from n (suc k) b))
        ≡ a +ℤ (gated t (f k) +ℤ sum_z n (λ i. gated (has b (suc k + i)) (f (suc k + i))))
    one rest true = rest (a +ℤ f k) ∙ +ℤ_assoc a (f k) (sum_z n (λ i. gated (has b (suc k + i)) (f (suc k + i))))
    one rest false = rest a ∙ ap (λ (x : ℤ). a +ℤ x) (sym (+ℤ_idl (sum_z n (λ i. gated (has b (suc k + i)) (f (suc k + i))))))

-- a sum over a bitboard's squares is one over all squares, of those that stand in it
pub added_is : (b : ℕ) (f : ℕ → ℤ) (a : ℤ) → added f a (squares b) ≡ a +ℤ sum_z 64 (λ s. gated (has b s) (f s))
unfolding squares
added_is b f a =
    added_from 64 0 b f a
    ∙ ap (λ (x : ℤ). a +ℤ x) (whole_same 64 (λ i. gated (has b (0 + i)) (f (0 + i))) (λ s. gated (has b s) (f s))
    (λ i l. ap (λ (s : ℕ). gated (has b s) (f s)) (zero-add i)))
