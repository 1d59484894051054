-- What a call of the ledger program asks for (docs/DECISIONS.md, "Real play"). Definitions only.
use Rattle.std.specs.Prelude.{◌≡◌, cond, List, ℕ, Option, None, Some}
use Rattle.laws.specs.Tests.{same}
use Rattle.text_in.specs.Text.{text}
use Rattle.line_profile.specs.declared.Profile.{Profile}
use Rattle.line_profile.specs.declared.Profile.TheVariants as P

-- `--profile real-play`, then files; else files alone; any other profile is unknown
abbrev pub asked_of : List ℕ → List ℕ → Option (Profile × ℕ)
asked_of first second =
    cond (same first (text "--profile")) (cond (same second (text "real-play")) (Some (P.RealPlay, 3)) None) (Some (P.Any, 1))

abbrev pub AsksFor : List ℕ → List ℕ → Option (Profile × ℕ) → Type 0
AsksFor first second r = r ≡ asked_of first second
