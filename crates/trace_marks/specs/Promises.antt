-- What the two readings give, for all inputs. Definitions only.
use Rattle.std.specs.Prelude.{◌≡◌, false, cond, ◌&&◌, List, ℕ, eqb, ltb, ℤ, length}
use Rattle.trace_counts.specs.Ranges.{are_entries}
use Rattle.trace_marks.specs.Marks.{groups_of, odd_of}
use Rattle.trace_marks.specs.declared.Reading.{Reading}

-- whether these are 768 entries, and where their groups have a 1
abbrev pub seen_of : List ℤ → Reading
seen_of entries =
    cond (eqb (length entries) 768) (record { entries = are_entries entries; groups = groups_of entries 48 }) (record { entries = false; groups = 0 })

abbrev pub Sees : List ℤ → Reading → Type 0
Sees entries r = r ≡ seen_of entries

-- the digits of a group; none where there is no such group
abbrev pub ones_of : List ℤ → ℕ → ℕ
ones_of entries g = cond (eqb (length entries) 768 && ltb g 48) (odd_of entries g) 0

abbrev pub GivesOnes : List ℤ → ℕ → ℕ → Type 0
GivesOnes entries g r = r ≡ ones_of entries g
