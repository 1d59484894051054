-- The lines of a collection (document 01, "A collection's line"). Definitions only.
use Rattle.std.specs.Prelude.{Bool, false, cond, List, [], ◌∷◌, ◌++◌, ℕ, ◌+◌, ◌-◌, eqb, length, take}
use Prim.Native.Char.{code}
use Rattle.text_in.specs.Text.{cr}

abbrev pub lf : ℕ
lf = code "\n"

-- the last byte is a CR
unfoldable pub ends_in_cr : List ℕ → Bool
ends_in_cr [] = false
ends_in_cr (b ∷ []) = eqb b cr
ends_in_cr (b ∷ (c ∷ s)) = ends_in_cr (c ∷ s)

-- "one CR before an LF is dropped"
abbrev pub without_cr : List ℕ → List ℕ
without_cr line = cond (ends_in_cr line) (take (length line - 1) line) line

-- "A line ends before LF or the end of input", where its CR is kept; "a final LF starts no further line"
abbrev pub at_end : List ℕ → List (List ℕ)
at_end [] = []
at_end (b ∷ s) = (b ∷ s) ∷ []

-- the lines of the input, of which the first one begins with a text that was read before
unfoldable pub lines_from : List ℕ → List ℕ → List (List ℕ)
lines_from begun [] = at_end begun
lines_from begun (b ∷ s) =
    let next : List (List ℕ) = lines_from [] s in
    let longer : List (List ℕ) = lines_from (begun ++ (b ∷ [])) s in
    cond (eqb b lf) (without_cr begun ∷ next) longer

abbrev pub lines_of : List ℕ → List (List ℕ)
lines_of input = lines_from [] input

-- how many lines end in a text
unfoldable pub ends : List ℕ → ℕ
ends [] = 0
ends (b ∷ s) = let rest : ℕ = ends s in cond (eqb b lf) (rest + 1) rest

-- whatever is kept beside the lines, line after line: `more` says what a line does to it
unfoldable pub fold_lines : {S : Type 0} → (S → List ℕ → S) → S → List (List ℕ) → S
fold_lines more s [] = s
fold_lines more s (l ∷ ls) = fold_lines more (more s l) ls
