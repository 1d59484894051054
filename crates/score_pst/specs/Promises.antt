-- What each function promises, for all inputs. Definitions only.
use Rattle.std.specs.Prelude.{◌≡◌, List, ℕ, ℤ}
use Rattle.score_pst.specs.Pst.{pst_table, pst_place, weight_in}

abbrev pub MakesTable : List ℤ → Type 0
MakesTable r = r ≡ pst_table

abbrev pub PlacesWeight : ℕ → ℕ → ℕ → ℕ → Type 0
PlacesWeight code square phase r = r ≡ pst_place code square phase

abbrev pub Weighs : List ℤ → ℕ → ℕ → ℕ → ℤ → Type 0
Weighs pst code square phase r = r ≡ weight_in pst code square phase
