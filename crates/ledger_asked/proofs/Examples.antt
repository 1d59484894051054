-- Worked examples of the definition, by computation. Assumes nothing.
use mathlib.Core.Path.{◌≡◌, refl}
use mathlib.Core.List.{List, [], ◌∷◌}
use Rattle.text_in.specs.Text.{text}
use Rattle.line_profile.specs.declared.Profile.{Profile}
use Rattle.line_profile.specs.declared.Profile.TheVariants as P
use Rattle.ledger_asked.specs.Called.{asked_of}
use Rattle.std.specs.Prelude.{Option, None, Some}
use Prim.Native.Nat.{ℕ}

calls : List (Option (Profile × ℕ))
calls =
    asked_of [] [] ∷ asked_of (text "games.txt") (text "real-play") ∷ asked_of (text "--profile") (text "real-play")
    ∷ asked_of (text "--profile") (text "real") ∷ asked_of (text "--profile") [] ∷ []

calls_are : calls ≡ Some (P.Any, 1) ∷ Some (P.Any, 1) ∷ Some (P.RealPlay, 3) ∷ None ∷ None ∷ []
unfolding calls
calls_are = refl
