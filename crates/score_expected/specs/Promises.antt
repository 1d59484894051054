-- What each function promises, for all inputs. Definitions only.
use Rattle.std.specs.Prelude.{◌≡◌, List, ℕ, ℤ}
use Rattle.score_expected.specs.Expected.{table, score_place, entry_in, expected_of}

abbrev pub Expects : ℤ → ℕ → Type 0
Expects score r = r ≡ expected_of score

-- the inner functions

abbrev pub MakesExpected : List ℕ → Type 0
MakesExpected r = r ≡ table

abbrev pub PlacesScore : ℤ → ℕ → Type 0
PlacesScore score r = r ≡ score_place score

abbrev pub ReadsExpected : List ℕ → ℤ → ℕ → Type 0
ReadsExpected t score r = r ≡ entry_in t score
