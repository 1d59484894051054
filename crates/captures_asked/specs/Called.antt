-- What a call of the captures program asks for (docs/CAPTURES.md). Definitions only.
use Rattle.std.specs.Prelude.{◌≡◌, cond, List, ℕ, leb, ltb, Option, None, Some}
use Rattle.laws.specs.Tests.{same}
use Rattle.text_in.specs.Text.{text}
use Rattle.exchange_start.specs.declared.Mode.TheVariants as M
use Rattle.exchange_start.specs.declared.Mode.{Mode}

-- the program's name alone is the first mode; with `--second` behind it, and nothing else, the second
abbrev pub mode_asked : ℕ → List ℕ → Option Mode
mode_asked count option =
    cond (leb count 1) (Some M.First) (cond (ltb 2 count) None (cond (same option (text "--second")) (Some M.Second) None))

abbrev pub AsksMode : ℕ → List ℕ → Option Mode → Type 0
AsksMode count option r = r ≡ mode_asked count option
