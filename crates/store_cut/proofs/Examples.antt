-- Worked examples of the definitions, by computation: pieces of 34 bytes, a short last one, and none. Assumes nothing.
use mathlib.Core.Path.{◌≡◌, refl}
use mathlib.Core.List.{List, [], ◌∷◌, map}
use Prim.Native.Nat.{ℕ}
use lib.ListN.{length, replicate}
use Rattle.store_cut.specs.Pieces.{records_from, pieces_of}

sizes : List ℕ → List ℕ
unfolding records_from
sizes input = map length (pieces_of input)

cuts : sizes [] ∷ sizes (replicate 33 7) ∷ sizes (replicate 34 7) ∷ sizes (replicate 35 7) ∷ sizes (replicate 68 7) ∷ [] ≡ [] ∷ (33 ∷ []) ∷ (34 ∷ [])
    ∷ (34 ∷ 1 ∷ []) ∷ (34 ∷ 34 ∷ []) ∷ []
unfolding sizes
cuts = refl
