-- The trace as a short list, by document 02, W-208: "at most 64 entries of kind, square and colour, sorted by those three, beside the counts".
-- The form: 64 entries of three bytes each, and how many of them are used. An entry stands for a 1 of the flat form, at its place; the
-- square is the trace's own (black xor 56). Definitions only.
use Rattle.std.specs.Prelude.{Bool, cond, ◌&&◌, ◌||◌, List, ℕ, zero, suc, ◌+◌, ◌*◌, ◌/◌, ◌%◌, eqb, ltb, leb, ℤ, pos, get_or, length}
use Rattle.std.specs.Int.Signed.{lt_z}
use Rattle.laws.specs.Tests.{all_below}
use Rattle.laws.specs.Tables.{tabulate}
use Rattle.bits.specs.Bitboard.{digit, is_in}
use Rattle.places.specs.Places.{entry_place, kind_at, square_at, colour_at}
use Rattle.trace_list.specs.Ones.{ones}

-- the bytes of entry i: "kind, square and colour"
abbrev pub kind_in : List ℕ → ℕ → ℕ
kind_in bytes i = get_or bytes (3 * i) 0

abbrev pub square_in : List ℕ → ℕ → ℕ
square_in bytes i = get_or bytes (3 * i + 1) 0

abbrev pub colour_in : List ℕ → ℕ → ℕ
colour_in bytes i = get_or bytes (3 * i + 2) 0

-- its place in the flat form
unfoldable pub list_place : List ℕ → ℕ → ℕ
list_place bytes i = entry_place (kind_in bytes i) (square_in bytes i) (colour_in bytes i)

-- the places of the first n entries
unfoldable pub list_places : List ℕ → ℕ → List ℕ
unfolding tabulate list_place
list_places bytes n = tabulate n (list_place bytes)

-- ---- ENTRY
-- "a value out of range": 6 kinds, 64 squares, 2 colours
abbrev pub in_range : List ℕ → ℕ → Bool
in_range bytes i = ltb (kind_in bytes i) 6 && ltb (square_in bytes i) 64 && ltb (colour_in bytes i) 2

-- the least place that entry i may have: one more than the entry's before it
abbrev pub least_at : List ℕ → ℕ → ℕ
least_at bytes zero = 0
least_at bytes (suc i) = suc (list_place bytes i)

-- "an entry out of order, a repeat"
unfoldable pub comes_after : List ℕ → ℕ → Bool
unfolding list_place
comes_after bytes i = in_range bytes i && leb (least_at bytes i) (list_place bytes i)

-- "not zero in an unused place"
abbrev pub is_unused : ℕ → List ℕ → ℕ → Bool
is_unused used bytes j = ltb j (3 * used) || eqb (get_or bytes j 0) 0

-- a list that is not refused: also "more than 64 entries" is
unfoldable pub is_list : ℕ → List ℕ → Bool
unfolding all_below comes_after
is_list used bytes = leb used 64 && all_below used (comes_after bytes) && all_below 192 (is_unused used bytes)

-- ---- there and back
-- the flat form: a 1 at the place of each entry
unfoldable pub flat_of : List ℕ → List ℤ
unfolding tabulate is_in
flat_of places = tabulate 768 (λ k. pos (digit (is_in k places)))

-- an entry of the flat form that is 1: above 0, as the double reads it
abbrev pub is_one_rule : List ℤ → ℕ → Bool
is_one_rule entries k = lt_z (pos 0) (get_or entries k (pos 0))

-- the places of the ones
unfoldable pub ones_in : List ℤ → List ℕ
unfolding ones
ones_in entries = ones (is_one_rule entries) 768

-- a part of what stands at a place
abbrev pub entry_byte : ℕ → ℕ → ℕ
entry_byte zero k = kind_at k
entry_byte (suc zero) k = square_at k
entry_byte (suc (suc r)) k = colour_at k

-- the bytes of a list of places: entry by entry, then zeros
unfoldable pub list_bytes : List ℕ → List ℕ
unfolding tabulate
list_bytes places = tabulate 192 (λ j. cond (ltb j (3 * length places)) (entry_byte (j % 3) (get_or places (j / 3) 0)) 0)
