-- Sums one term on, and two sums of the same terms. Assumes nothing.
use mathlib.Core.Path.{◌≡◌, refl, ap, ap₂}
use mathlib.Core.List.{List, [], ◌∷◌}
use Prim.Native.Nat.{ℕ, zero, suc, ◌+◌, ◌*◌, ◌<◌, ◌≤◌}
use native.Mathlib.Nat.{mul-suc}
use native.Mathlib.Numerals.{add-one}
use native.Mathlib.Omega.{arith}
use lib.IntN.{ℤ, ◌+ℤ◌}
use Rattle.laws.specs.Sums.{sum_n, sum_z, counted}

-- ---- one term on, as a loop goes
pub sum_none : (f : ℕ → ℕ) → sum_n 0 f ≡ 0
unfolding sum_n
sum_none f = refl

pub sum_more : (f : ℕ → ℕ) (n : ℕ) → sum_n (n + 1) f ≡ sum_n n f + f n
unfolding sum_n
sum_more f n = ap (λ (k : ℕ). sum_n k f) (add-one n)

pub counted_none : (f : ℕ → ℕ) (a : ℕ) → counted f a [] ≡ a
unfolding counted
counted_none f a = refl

pub counted_one : (f : ℕ → ℕ) (a s : ℕ) (l : List ℕ) → counted f a (s ∷ l) ≡ counted f (a + f s) l
unfolding counted
counted_one f a s l = refl

-- ---- the same terms
pub sum_same : (n : ℕ) (f g : ℕ → ℕ) → ((k : ℕ) → k < n → f k ≡ g k) → sum_n n f ≡ sum_n n g
unfolding sum_n
sum_same zero f g h = refl
sum_same (suc n) f g h = ap₂ ◌+◌ (sum_same n f g (λ k l. h k (omega arith))) (h n (omega arith))

pub whole_same : (n : ℕ) (f g : ℕ → ℤ) → ((k : ℕ) → k < n → f k ≡ g k) → sum_z n f ≡ sum_z n g
unfolding sum_z
whole_same zero f g h = refl
whole_same (suc n) f g h = ap₂ ◌+ℤ◌ (whole_same n f g (λ k l. h k (omega arith))) (h n (omega arith))

-- ---- terms that are no more than m
pub sum_le : (n m : ℕ) (f : ℕ → ℕ) → ((k : ℕ) → k < n → f k ≤ m) → sum_n n f ≤ m * n
unfolding sum_n
sum_le zero m f h = omega arith
sum_le (suc n) m f h = omega (arith, sum_le n m f (λ k l. h k (omega arith)), h n (omega arith), mul-suc m n)
