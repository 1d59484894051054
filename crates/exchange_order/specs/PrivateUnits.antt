-- A unit for each kind, so that the counts of the kinds are the digits of one number, as the code has them. Definitions only.
use Rattle.std.specs.Prelude.{List, [], ◌∷◌, ℕ, get_or}

abbrev pub units : List ℕ
units = 1 ∷ 16 ∷ 256 ∷ 4096 ∷ 65536 ∷ 1048576 ∷ []

abbrev pub unit_of : ℕ → ℕ
unit_of kind = get_or units kind 0
