-- Text in a lent buffer, and decimal numbers. Definitions only.
use Rattle.std.specs.Prelude.{◌≡◌, Bool, cond, List, [], ◌∷◌, ◌++◌, ℕ, zero, suc, ◌+◌, ◌/◌, ◌%◌, ◌≤◌, leb, ltb, ℤ, pos, negsuc, length, take, drop, Option, None, Some}

-- the text has room in the buffer from a place on
abbrev pub room_for : List ℕ → ℕ → List ℕ → Bool
room_for old at text = leb (at + length text) (length old)

-- the buffer with the text at a place; as it was where there is no room
abbrev pub written_of : List ℕ → ℕ → List ℕ → List ℕ
written_of old at text = cond (room_for old at text) (take at old ++ (text ++ drop (at + length text) old)) old

-- the place after it, or none
abbrev pub place_of : List ℕ → ℕ → List ℕ → List ℕ
place_of old at text = cond (room_for old at text) ((at + length text) ∷ []) []

abbrev pub place : Option ℕ → List ℕ
place (Some r) = r ∷ []
place None = []

-- the decimal digits of a number below 10 to the power of the first argument, which is at least 1
unfoldable pub digits_up_to : ℕ → ℕ → List ℕ
digits_up_to zero n = []
digits_up_to (suc k) n = let front : List ℕ = digits_up_to k (n / 10) in cond (ltb n 10) ((48 + n) ∷ []) (front ++ ((48 + n % 10) ∷ []))

-- the decimal digits of a number of 64 bits, with no leading zero
abbrev pub decimal_of : ℕ → List ℕ
decimal_of n = digits_up_to 20 n

-- a minus sign before the digits
abbrev pub minus : ℕ → List ℕ
minus n = 45 ∷ decimal_of n

abbrev pub signed_of : ℤ → List ℕ
signed_of (pos n) = decimal_of n
signed_of (negsuc n) = minus (suc n)

-- the text was put at `at`, up to `r`, and nothing else changed
pub record Wrote (old new : List ℕ) (at r : ℕ) (text : List ℕ) : Type 0 where
  pub to : r ≡ at + length text
  pub fits : r ≤ length old
  pub front : take r new ≡ take at old ++ text
  pub back : drop r new ≡ drop r old

-- what the functions promise: the place, and the whole buffer
abbrev pub Puts : List ℕ → List ℕ → ℕ → List ℕ → Option ℕ → Type 0
Puts old new at text r = (place r ≡ place_of old at text) × (new ≡ written_of old at text)

abbrev pub PutsDecimal : List ℕ → List ℕ → ℕ → ℕ → Option ℕ → Type 0
PutsDecimal old new at n r = Puts old new at (decimal_of n) r

abbrev pub PutsSigned : List ℕ → List ℕ → ℕ → ℤ → Option ℕ → Type 0
PutsSigned old new at n r = Puts old new at (signed_of n) r

abbrev pub after_of : List ℕ → ℕ → ℕ
after_of [] at = at
after_of (r ∷ l) at = r

-- what `unwrap_or` of a place gives: the place after the text, or the one given where there was no room
abbrev pub PlaceAfter : Option ℕ → ℕ → ℕ → Type 0
PlaceAfter p at r = r ≡ after_of (place p) at

-- for who puts one text after another: the text is put where it has room, and the place after it is given, or the one that was asked for
pub record Adds (old : List ℕ) (at : ℕ) (text new : List ℕ) (r : ℕ) : Type 0 where
  pub place : r ≡ after_of (place_of old at text) at
  pub buffer : new ≡ written_of old at text
