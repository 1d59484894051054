-- The expected score in millionths (document 02, W-210). Definitions only.
use Rattle.std.specs.Prelude.{Bool, cond, List, ℕ, zero, suc, ◌+◌, ◌-◌, ◌*◌, ◌/◌, ◌^◌, min, leb, ℤ, pos, negsuc, ◌+ℤ◌, get_or}
use Rattle.std.proofs.Math.IntN.{sub_ℕ}
use Rattle.laws.specs.Tables.{tabulate}

-- "for j not negative: a to the 100th is at most (1000000−a) to the 100th times 10 to the j .. for negative j the power stands on the other side"
abbrev pub at_most : ℤ → ℕ → Bool
at_most (pos j) a = leb (a ^ 100) ((1000000 - a) ^ 100 * 10 ^ j)
at_most (negsuc j) a = leb (a ^ 100 * 10 ^ suc j) ((1000000 - a) ^ 100)

-- the greatest number that a test holds of, found digit by digit in binary: of n digits, the ones above them being a's
unfoldable pub greatest : ℕ → (ℕ → Bool) → ℕ → ℕ
greatest zero f a = a
greatest (suc n) f a = greatest n f (cond (f (a + 2 ^ n)) (a + 2 ^ n) a)

-- "At 4j the entry a is the whole part of a million times t/(1+t)": the greatest that is at most that, in 20 binary digits
unfoldable pub entry_of : ℤ → ℕ
unfolding greatest
entry_of j = greatest 20 (at_most j) 0

-- "a table for scores from −1600 to 1600 in steps of four, 801 entries"
unfoldable pub table : List ℕ
unfolding tabulate entry_of
table = tabulate 801 (λ k. entry_of (sub_ℕ k 400))

-- how far a score lies above −1600, and no farther than 3200: "A score outside the range counts as its end"
abbrev pub not_below : ℤ → ℕ
not_below (pos n) = n
not_below (negsuc n) = 0

abbrev pub above : ℤ → ℕ
above z = min (not_below (z +ℤ pos 1600)) 3200

-- ", others as the multiple of four at or below": the steps of four from −1600 to there
abbrev pub score_place : ℤ → ℕ
score_place z = above z / 4

-- the entry that a table has for a score, and the one of 02's table
abbrev pub entry_in : List ℕ → ℤ → ℕ
entry_in t z = get_or t (score_place z) 0

abbrev pub expected_of : ℤ → ℕ
expected_of z = entry_in table z
