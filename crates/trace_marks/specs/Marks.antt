-- How 768 entries are read: in groups of sixteen, and only those that are 1. Definitions only.
use Rattle.std.specs.Prelude.{List, ℕ, zero, suc, ◌+◌, ◌*◌, ◌%◌, ◌^◌, ◌<◌, ℤ, pos, get_or}
use Rattle.std.specs.Int.Bits.{bit_or}
use Rattle.std.specs.Int.Signed.{mag}
use Rattle.std.specs.Int.{w32}
use Rattle.std.proofs.Common.{of_z}

-- an entry as the machine holds it
abbrev pub bits_at : List ℤ → ℕ → ℕ
bits_at entries k = of_z w32 (get_or entries k (pos 0))

-- each of so many entries is a number of 32 bits
pub record Held (entries : List ℤ) (start many : ℕ) : Type 0 where
  pub each : (j : ℕ) → j < many → mag (get_or entries (start + j) (pos 0)) < 2 ^ 31

-- the first n numbers taken together, binary digit by binary digit
unfoldable pub together : (ℕ → ℕ) → ℕ → ℕ
together f zero = zero
together f (suc n) = bit_or (together f n) (f n)

-- the first n numbers in a row, each one digit further
unfoldable pub marks : (ℕ → ℕ) → ℕ → ℕ
marks f zero = zero
marks f (suc n) = bit_or (marks f n) (f n * 2 ^ n % 2 ^ 64)

-- the entries of a group taken together
abbrev pub group_of : List ℤ → ℕ → ℕ
group_of entries g = together (λ j. bits_at entries (16 * g + j)) 16

-- 1, but 0 for 0
abbrev pub mark_of : ℕ → ℕ
mark_of zero = 0
mark_of (suc n) = 1

-- a digit for each of the first n groups that is not all 0
abbrev pub groups_of : List ℤ → ℕ → ℕ
groups_of entries n = marks (λ g. mark_of (group_of entries g)) n

-- a digit for each entry of a group that is odd: of entries that are 0 or 1, that is 1
abbrev pub odd_at : List ℤ → ℕ → ℕ → ℕ
odd_at entries g j = bits_at entries (16 * g + j) % 2

abbrev pub odd_of : List ℤ → ℕ → ℕ
odd_of entries g = marks (odd_at entries g) 16

-- n numbers from k on, one after the other, from a start on
unfoldable pub fold_from : {A : Type 0} → (A → ℕ → A) → A → ℕ → ℕ → A
fold_from step start k zero = start
fold_from step start k (suc n) = step (fold_from step start k n) (k + n)
