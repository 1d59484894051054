-- A test tried at each number below a bound, or at each two; two lists compared. Definitions only.
use Rattle.std.specs.Prelude.{Bool, true, false, ◌&&◌, List, [], ◌∷◌, ℕ, zero, suc, eqb}

-- f holds at each number below n
unfoldable pub all_below : ℕ → (ℕ → Bool) → Bool
all_below zero f = true
all_below (suc n) f = f n && all_below n f

-- f holds at each two numbers, the first below m and the second below n
unfoldable pub all_below2 : ℕ → ℕ → (ℕ → ℕ → Bool) → Bool
unfolding all_below
all_below2 m n f = all_below m (λ i. all_below n (f i))

-- two lists are the same, number by number
abbrev pub same : List ℕ → List ℕ → Bool
same [] [] = true
same [] (y ∷ ys) = false
same (x ∷ xs) [] = false
same (x ∷ xs) (y ∷ ys) = eqb x y && same xs ys
