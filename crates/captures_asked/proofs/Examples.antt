-- Worked examples of the definition, by computation. Assumes nothing.
use mathlib.Core.Path.{◌≡◌, refl}
use mathlib.Core.List.{List, [], ◌∷◌}
use Rattle.text_in.specs.Text.{text}
use Rattle.exchange_start.specs.declared.Mode.TheVariants as M
use Rattle.captures_asked.specs.Called.{mode_asked}
use Rattle.std.specs.Prelude.{Option, None, Some}
use Rattle.exchange_start.specs.declared.Mode.{Mode}

calls : List (Option Mode)
calls = mode_asked 1 [] ∷ mode_asked 2 (text "--second") ∷ mode_asked 2 (text "--third") ∷ mode_asked 3 (text "--second") ∷ []

calls_are : calls ≡ Some M.First ∷ Some M.Second ∷ None ∷ None ∷ []
unfolding calls
calls_are = refl
