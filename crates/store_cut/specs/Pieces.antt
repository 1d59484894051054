-- The pieces of a store (document 02, W-205): "records of one fixed size, 34 bytes, no header", and "a short last piece". Definitions only.
use Rattle.std.specs.Prelude.{cond, List, [], ◌∷◌, ◌++◌, ℕ, ltb, length}
use Rattle.line_cut.specs.Lines.{at_end}

-- the pieces of the input, of which the first one begins with bytes that were read before
unfoldable pub records_from : List ℕ → List ℕ → List (List ℕ)
records_from begun [] = at_end begun
records_from begun (b ∷ s) =
    let next : List (List ℕ) = records_from [] s in
    let longer : List (List ℕ) = records_from (begun ++ (b ∷ [])) s in
    cond (ltb (length begun) 33) longer ((begun ++ (b ∷ [])) ∷ next)

abbrev pub pieces_of : List ℕ → List (List ℕ)
pieces_of input = records_from [] input
