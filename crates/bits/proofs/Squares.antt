-- The squares of a bitboard in ascending order. Assumes nothing.
use mathlib.Core.Path.{◌≡◌, refl, sym, ap, ap₂, ◌∙◌}
use mathlib.Core.Bool.{Bool, true, false, cond}
use mathlib.Core.List.{List, [], ◌∷◌}
use Prim.Native.Nat.{ℕ, zero, suc, ◌+◌, ◌-◌, ◌≤◌, ◌<◌, suc-le-suc}
use native.Mathlib.Nat.{le_of_suc-le-suc, add-zero, zero-add, add-suc, suc-add}
use native.Mathlib.Omega.{arith}
use lib.ListN.{length}
use Rattle.bits.specs.Bitboard.{has, digit, how_many, squares_from, squares}
use Rattle.bits.proofs.Counts.{many_same}

-- ---- the squares in order
skip : (j n k b : ℕ) → ((i : ℕ) → i < j → has b (k + i) ≡ false) → squares_from (j + n) k b ≡ squares_from n (k + j) b
unfolding squares_from
skip zero n k b e = ap₂ (λ (x y : ℕ). squares_from x y b) (zero-add n) (sym (add-zero k))
skip (suc j) n k b e =
    ap (λ (x : ℕ). squares_from x k b) (suc-add j n)
    ∙ ap (λ (t : Bool). cond t (k ∷ squares_from (j + n) (suc k) b) (squares_from (j + n) (suc k) b)) (ap (has b) (sym (add-zero k)) ∙ e 0 (omega arith))
    ∙ skip j n (suc k) b (λ i h. ap (has b) (suc-add k i ∙ sym (add-suc k i)) ∙ e (suc i) (suc-le-suc h))
    ∙ ap (λ (x : ℕ). squares_from n x b) (suc-add k j ∙ sym (add-suc k j))

same_from : (n k a b : ℕ) → ((i : ℕ) → k ≤ i → has a i ≡ has b i) → squares_from n k a ≡ squares_from n k b
unfolding squares_from
same_from zero k a b e = refl
same_from (suc n) k a b e =
    ap₂ (λ (t : Bool) (l : List ℕ). cond t (k ∷ l) l) (e k (omega arith)) (same_from n (suc k) a b (λ i h. e i (omega arith)))

-- no square stands in the empty bitboard
pub squares_none : squares 0 ≡ []
unfolding squares has
squares_none = refl

-- the lowest square comes first, and then the squares of the rest
pub squares_next : (b r s : ℕ) → s < 64 → has b s ≡ true → ((k : ℕ) → k < s → has b k ≡ false)
    → ((k : ℕ) → k ≤ s → has r k ≡ false) → ((k : ℕ) → s < k → has r k ≡ has b k)
    → squares b ≡ s ∷ squares r
unfolding squares
squares_next b r s h at low rlow rhigh =
    let n : ℕ = 63 - s in
    let e : 64 ≡ s + suc n = omega arith in
    let e' : 64 ≡ suc s + n = omega arith in
    ap (λ (m : ℕ). squares_from m 0 b) e
    ∙ skip s (suc n) 0 b (λ i l. ap (has b) (zero-add i) ∙ low i l)
    ∙ ap (λ (m : ℕ). squares_from (suc n) m b) (zero-add s)
    ∙ ap (λ (t : Bool). cond t (s ∷ squares_from n (suc s) b) (squares_from n (suc s) b)) at
    ∙ ap (λ (l : List ℕ). s ∷ l)
    (same_from n (suc s) b r (λ i l. sym (rhigh i l))
    ∙ ap (λ (m : ℕ). squares_from n m r) (sym (zero-add (suc s)))
    ∙ sym (skip (suc s) n 0 r (λ i l. ap (has r) (zero-add i) ∙ rlow i (le_of_suc-le-suc l)))
    ∙ ap (λ (m : ℕ). squares_from m 0 r) (sym e'))

from_le : (n k b : ℕ) → length (squares_from n k b) ≤ n
unfolding squares_from
from_le zero k b = omega arith
from_le (suc n) k b = pick (has b k) (from_le n (suc k) b)
  where
    pick : (t : Bool) → length (squares_from n (suc k) b) ≤ n → length (cond t (k ∷ squares_from n (suc k) b) (squares_from n (suc k) b)) ≤ suc n
    pick true h = omega arith
    pick false h = omega arith

pub squares_le : (b : ℕ) → length (squares b) ≤ 64
unfolding squares
squares_le b = from_le 64 0 b

-- ---- there are as many as stand in it
many_low : (n : ℕ) (f : ℕ → Bool) → how_many (suc n) f ≡ digit (f 0) + how_many n (λ i. f (suc i))
unfolding how_many
many_low zero f = refl
many_low (suc n) f = omega (arith, many_low n f)

from_many : (n k b : ℕ) → length (squares_from n k b) ≡ how_many n (λ i. has b (k + i))
unfolding squares_from how_many
from_many zero k b = refl
from_many (suc n) k b =
    pick (has b k) ∙ ap₂ (λ (t : Bool) (m : ℕ). digit t + m) (ap (has b) (sym (add-zero k)))
    (from_many n (suc k) b ∙ many_same n (λ i. has b (suc k + i)) (λ i. has b (k + suc i)) (λ i h. ap (has b) (suc-add k i ∙ sym (add-suc k i))))
    ∙ sym (many_low n (λ i. has b (k + i)))
  where
    pick : (t : Bool) → length (cond t (k ∷ squares_from n (suc k) b) (squares_from n (suc k) b)) ≡ digit t + length (squares_from n (suc k) b)
    pick true = omega arith
    pick false = omega arith

pub squares_many : (b : ℕ) → length (squares b) ≡ how_many 64 (has b)
unfolding squares
squares_many b = from_many 64 0 b ∙ many_same 64 (λ i. has b (0 + i)) (has b) (λ i h. ap (has b) (zero-add i))
