-- A bitboard is the number of its u64, and square k stands in it where its binary digit k is 1: a1 is digit 0, h8 digit 63
-- (document 01: "a1 = 0, h8 = 63"). The one vocabulary of bitboards. Definitions only.
use Rattle.std.specs.Prelude.{Bool, true, false, cond, ◌||◌, List, [], ◌∷◌, ℕ, zero, suc, ◌+◌, ◌*◌, ◌/◌, ◌%◌, ◌^◌, eqb}

-- a digit as a test
abbrev pub is_set : ℕ → Bool
is_set zero = false
is_set (suc d) = true

-- square k stands in b
unfoldable pub has : ℕ → ℕ → Bool
has b k = is_set (b / 2 ^ k % 2)

-- a test as a digit
abbrev pub digit : Bool → ℕ
digit true = 1
digit false = 0

-- the squares below n for which f holds, as a bitboard
unfoldable pub those : ℕ → (ℕ → Bool) → ℕ
those zero f = zero
those (suc n) f = digit (f n) * 2 ^ n + those n f

-- f holds for some number below n
unfoldable pub some : ℕ → (ℕ → Bool) → Bool
some zero f = false
some (suc n) f = f n || some n f

-- how many numbers below n are such that f holds
unfoldable pub how_many : ℕ → (ℕ → Bool) → ℕ
how_many zero f = zero
how_many (suc n) f = digit (f n) + how_many n f

-- the first number from k on, n of them tried, such that f holds; the one after them where it holds of none
unfoldable pub first_from : ℕ → ℕ → (ℕ → Bool) → ℕ
first_from zero k f = k
first_from (suc n) k f = cond (f k) k (first_from n (suc k) f)

-- the lowest square of b; 64 where it is empty
unfoldable pub lowest_of : ℕ → ℕ
unfolding first_from has
lowest_of b = first_from 64 0 (has b)

-- the squares of b from k on, n of them looked at, in ascending order
unfoldable pub squares_from : ℕ → ℕ → ℕ → List ℕ
unfolding has
squares_from zero k b = []
squares_from (suc n) k b = let rest : List ℕ = squares_from n (suc k) b in cond (has b k) (k ∷ rest) rest

unfoldable pub squares : ℕ → List ℕ
unfolding squares_from
squares b = squares_from 64 0 b

-- a square stands in a list
unfoldable pub is_in : ℕ → List ℕ → Bool
is_in k [] = false
is_in k (q ∷ qs) = eqb k q || is_in k qs

-- the bitboard of a list's squares
unfoldable pub board : List ℕ → ℕ
unfolding is_in those
board qs = those 64 (λ k. is_in k qs)
