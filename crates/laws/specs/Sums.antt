-- Sums: over the numbers below n, and over a list from the left. Definitions only.
use Rattle.std.specs.Prelude.{List, [], ◌∷◌, ℕ, zero, suc, ◌+◌, ℤ, pos, ◌+ℤ◌}

-- f 0 + f 1 + .., n of them
unfoldable pub sum_n : ℕ → (ℕ → ℕ) → ℕ
sum_n zero f = 0
sum_n (suc n) f = sum_n n f + f n

unfoldable pub sum_z : ℕ → (ℕ → ℤ) → ℤ
sum_z zero f = pos 0
sum_z (suc n) f = sum_z n f +ℤ f n

-- a, with f of each of a list's numbers added
unfoldable pub counted : (ℕ → ℕ) → ℕ → List ℕ → ℕ
counted f a [] = a
counted f a (s ∷ l) = counted f (a + f s) l

unfoldable pub added : (ℕ → ℤ) → ℤ → List ℕ → ℤ
added f a [] = a
added f a (s ∷ l) = added f (a +ℤ f s) l
