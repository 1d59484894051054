-- What each function promises, for all inputs. Definitions only.
use Rattle.std.specs.Prelude.{◌≡◌, Bool, List, ℕ, length}
use Rattle.laws.specs.Tests.{same}
use Rattle.text_in.specs.Text.{is_text, is_blank, is_space, every, before, past_of, after, without, without_last, trim}

abbrev pub IsText : List ℕ → Bool → Type 0
IsText s r = r ≡ every is_text s

abbrev pub Finds : List ℕ → ℕ → ℕ → Type 0
Finds s mark r = r ≡ length (before mark s)

abbrev pub Before : List ℕ → ℕ → List ℕ → Type 0
Before s mark r = r ≡ before mark s

abbrev pub Past : List ℕ → ℕ → ℕ → Type 0
Past s mark r = r ≡ past_of mark s

abbrev pub After : List ℕ → ℕ → List ℕ → Type 0
After s mark r = r ≡ after mark s

abbrev pub SkipsBlanks : List ℕ → List ℕ → Type 0
SkipsBlanks s r = r ≡ without is_blank s

abbrev pub DropsBlanks : List ℕ → List ℕ → Type 0
DropsBlanks s r = r ≡ without_last is_blank s

abbrev pub Trims : List ℕ → List ℕ → Type 0
Trims s r = r ≡ trim s

abbrev pub SkipsSpaces : List ℕ → List ℕ → Type 0
SkipsSpaces s r = r ≡ without is_space s

abbrev pub Is : List ℕ → List ℕ → Bool → Type 0
Is s word r = r ≡ same s word
