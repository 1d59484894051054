-- A text is the list of its bytes: what it is made of, what stands before and after a byte, what is left when it is trimmed.
-- Definitions only.
use Rattle.std.specs.Prelude.{Bool, true, false, cond, ◌||◌, ◌&&◌, List, [], ◌∷◌, reverse, ℕ, zero, suc, ◌+◌, eqb, leb, length}
use Prim.Native.Char.{code}
use Prim.Native.String.{String, [] as end, ◌∷◌ as ◌then◌}
use Rattle.laws.specs.Tests.{same}

-- the bytes of a quoted text
abbrev pub text : String → List ℕ
text end = []
text (c then s) = code c ∷ text s

-- ---- bytes
abbrev pub tab : ℕ
tab = code "\t"

abbrev pub cr : ℕ
cr = code "\r"

abbrev pub space : ℕ
space = code " "

abbrev pub slash : ℕ
slash = code "/"

abbrev pub semicolon : ℕ
semicolon = code ";"

-- BYTE: "a byte other than 32..126, tab and CR"
abbrev pub is_text : ℕ → Bool
is_text b = (leb 32 b && leb b 126) || (eqb b tab || eqb b cr)

-- "trimmed of spaces, tabs and CR"
abbrev pub is_blank : ℕ → Bool
is_blank b = eqb b space || (eqb b tab || eqb b cr)

abbrev pub is_space : ℕ → Bool
is_space b = eqb b space

-- ---- texts
-- every byte passes the test
unfoldable pub every : (ℕ → Bool) → List ℕ → Bool
every test [] = true
every test (b ∷ s) = test b && every test s

-- the byte stands in the text
unfoldable pub holds : ℕ → List ℕ → Bool
holds mark [] = false
holds mark (b ∷ s) = eqb b mark || holds mark s

-- the text before the first such byte; all of it where there is none
unfoldable pub before : ℕ → List ℕ → List ℕ
before mark [] = []
before mark (b ∷ s) = let rest : List ℕ = before mark s in cond (eqb b mark) [] (b ∷ rest)

-- where the text after it begins; its length where there is none
unfoldable pub past_of : ℕ → List ℕ → ℕ
unfolding holds before
past_of mark s = cond (holds mark s) (length (before mark s) + 1) (length s)

-- the text after it; nothing where there is none
unfoldable pub after : ℕ → List ℕ → List ℕ
after mark [] = []
after mark (b ∷ s) = let rest : List ℕ = after mark s in cond (eqb b mark) s rest

-- the text without the bytes at its front that pass the test
unfoldable pub without : (ℕ → Bool) → List ℕ → List ℕ
without test [] = []
without test (b ∷ s) = let rest : List ℕ = without test s in cond (test b) rest (b ∷ s)

-- the same at its end
unfoldable pub without_last : (ℕ → Bool) → List ℕ → List ℕ
unfolding without
without_last test s = reverse (without test (reverse s))

unfoldable pub trim : List ℕ → List ℕ
unfolding without without_last
trim s = without_last is_blank (without is_blank s)

-- the place of a text in a list of them, from 0; their count where it is not among them
unfoldable pub place_in : List (List ℕ) → List ℕ → ℕ
place_in [] t = zero
place_in (x ∷ xs) t = let rest : ℕ = place_in xs t in cond (same t x) zero (suc rest)
