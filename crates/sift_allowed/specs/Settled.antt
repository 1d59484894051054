-- When the output of a program that leaves refused lines out stands. Definitions only.
use Rattle.std.specs.Prelude.{◌≡◌, Bool, ◌||◌, ℕ, eqb}

-- "status 1 where one is refused unless `--refused allow` is given: nobody may lose a line without being told"
abbrev pub output_stands : ℕ → Bool → Bool
output_stands refused allowed = eqb refused 0 || allowed

abbrev pub OutputStands : ℕ → Bool → Bool → Type 0
OutputStands refused allowed r = r ≡ output_stands refused allowed
