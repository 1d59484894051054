-- Worked examples of the definition, by computation. Assumes nothing.
use mathlib.Core.Path.{◌≡◌, refl}
use mathlib.Core.List.{List, [], ◌∷◌}
use Rattle.refusal.specs.Answer.{Answer, given, refused}
use Rattle.exchange_start.specs.declared.Mode.{Mode}
use Rattle.exchange_start.specs.declared.Mode.TheVariants.{First, Second}
use Rattle.abi_modes.specs.Modes.{in_mode}

modes : List (Answer Mode)
modes = in_mode 0 given ∷ in_mode 1 given ∷ in_mode 2 given ∷ in_mode 255 given ∷ []

modes_are : modes ≡ given First ∷ given Second ∷ refused 1 [] ∷ refused 1 [] ∷ []
unfolding modes
modes_are = refl
