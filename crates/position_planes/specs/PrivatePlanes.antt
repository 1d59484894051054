-- How the bytes are sorted: a binary digit of all eight bytes of a rank at once. No promise reaches this. Definitions only.
use Rattle.std.specs.Prelude.{◌≡◌, Bool, false, cond, List, ℕ, zero, suc, ◌+◌, ◌*◌, ◌/◌, ◌%◌, ◌^◌, ◌<◌, eqb, get_or}
use Rattle.std.specs.Int.Bits.{bit_or}
use Rattle.laws.specs.Tables.{tabulate}
use Rattle.bits.specs.Bitboard.{has, those, digit}
use Rattle.position_planes.specs.Sorted.{table_place}

-- the first n bytes of a rank are bytes
pub record Row (bytes : List ℕ) (rank n : ℕ) : Type 0 where
  pub each : (j : ℕ) → j < n → get_or bytes (8 * rank + j) 0 < 2 ^ 8

-- those of the first n ranks
pub record Rows (bytes : List ℕ) (n : ℕ) : Type 0 where
  pub rows : (rank : ℕ) → rank < n → Row bytes rank 8

-- n numbers of eight digits, one above the other
unfoldable pub stack : (ℕ → ℕ) → ℕ → ℕ
stack f zero = zero
stack f (suc n) = bit_or (stack f n) (f n * 2 ^ (8 * n) % 2 ^ 64)

abbrev pub rank_word : List ℕ → ℕ → ℕ
rank_word bytes rank = stack (λ j. get_or bytes (8 * rank + j) 0) 8

-- a digit of each of a word's eight bytes
unfoldable pub digits_of_rule : ℕ → ℕ → ℕ
unfolding has those
digits_of_rule word d = those 8 (λ j. has word (8 * j + d))

abbrev pub digit_plane : List ℕ → ℕ → ℕ
digit_plane bytes d = stack (λ rank. digits_of_rule (rank_word bytes rank) d) 8

abbrev pub high_of : ℕ → ℕ
high_of word = bit_or (bit_or word (word / 2 ^ 1)) (bit_or (word / 2 ^ 2) (word / 2 ^ 3))

abbrev pub beyond_of : List ℕ → ℕ
beyond_of bytes = stack (λ rank. digits_of_rule (high_of (rank_word bytes rank)) 4) 8

-- what the first n words have, all of them together have
pub record Covers (word : ℕ → ℕ) (n all : ℕ) : Type 0 where
  pub none : (rank k : ℕ) → rank < n → has all k ≡ false → has (word rank) k ≡ false

-- the planes of the first n words
pub record Sliced (word : ℕ → ℕ) (n a b c d all : ℕ) : Type 0 where
  pub first : a ≡ stack (λ rank. digits_of_rule (word rank) 0) n
  pub second : b ≡ stack (λ rank. digits_of_rule (word rank) 1) n
  pub third : c ≡ stack (λ rank. digits_of_rule (word rank) 2) n
  pub fourth : d ≡ stack (λ rank. digits_of_rule (word rank) 3) n
  pub covers : Covers word n all

-- the place of a byte by its four lowest digits, and whether it has others
abbrev pub place_by : Bool → Bool → Bool → Bool → Bool → ℕ
place_by a b c d beyond = cond beyond 14 (table_place (digit a + 2 * digit b + 4 * digit c + 8 * digit d))

abbrev pub places_by : (ℕ → Bool) → (ℕ → Bool) → (ℕ → Bool) → (ℕ → Bool) → (ℕ → Bool) → List ℕ
places_by a b c d beyond = tabulate 15 (λ place. those 64 (λ k. eqb (place_by (a k) (b k) (c k) (d k) (beyond k)) place))
