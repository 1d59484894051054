-- What each function promises, for all inputs. Definitions only.
use Rattle.std.specs.Prelude.{◌≡◌, ◌||◌, List, ℕ, ℤ, get_or, Result, Option}
use Rattle.bits.specs.Bitboard.{has, those, how_many, lowest_of}
use Rattle.bits.specs.Answers.{from_square_of, got_of, set_of, reset_of, toggled_of, shifted_of, next_of, lowest}
use Rattle.refusal.specs.declared.Refusal.{Refusal}
use Rattle.refusal.specs.Answer.{answered}
use mathlib.Core.Bool.{Bool}

abbrev pub Counts : ℕ → ℕ → Type 0
Counts b r = r ≡ how_many 64 (has b)

abbrev pub Scans : ℕ → ℕ → Type 0
Scans b r = r ≡ lowest_of b

abbrev pub FromSquare : ℕ → Result ℕ Refusal → Type 0
FromSquare s r = answered r ≡ from_square_of s

abbrev pub Gets : ℕ → ℕ → Result Bool Refusal → Type 0
Gets b s r = answered r ≡ got_of b s

abbrev pub Sets : ℕ → ℕ → Result ℕ Refusal → Type 0
Sets b s r = answered r ≡ set_of b s

abbrev pub Resets : ℕ → ℕ → Result ℕ Refusal → Type 0
Resets b s r = answered r ≡ reset_of b s

abbrev pub Toggles : ℕ → ℕ → Result ℕ Refusal → Type 0
Toggles b s r = answered r ≡ toggled_of b s

abbrev pub Shifts : ℕ → ℤ → Result ℕ Refusal → Type 0
Shifts b s r = answered r ≡ shifted_of b s

abbrev pub Nexts : ℕ → Option (ℕ × ℕ) → Type 0
Nexts b r = lowest r ≡ next_of b

abbrev pub Unites : ℕ → ℕ → ℕ → Type 0
Unites a b r = r ≡ those 64 (λ k. has a k || has b k)

-- a bitboard read from a list of them: past its end stands the empty one
abbrev pub ReadsBitboard : List ℕ → ℕ → ℕ → Type 0
ReadsBitboard bitboards i r = r ≡ get_or bitboards i 0
