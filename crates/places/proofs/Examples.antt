-- Worked examples of the definitions, by computation. Assumes nothing.
use mathlib.Core.Path.{◌≡◌, refl}
use mathlib.Core.List.{[], ◌∷◌}
use Prim.Native.Nat.{◌+◌}
use Rattle.refusal.specs.Answer.{given, refused}
use Rattle.places.specs.Phases.{made_of}
use Rattle.places.specs.Places.{entry_place, weight_place, kind_at, square_at, colour_at}

-- the last phase taken and the first refused
phases_end : made_of 1 ∷ made_of 2 ∷ [] ≡ given 1 ∷ refused 1 [] ∷ []
phases_end = refl

-- the first and the last place of an entry, of a square weight, and of a weight
entry_ends : entry_place 0 0 0 ∷ entry_place 5 63 1 ∷ [] ≡ 0 ∷ 767 ∷ []
entry_ends = refl

weight_ends : weight_place 0 0 0 ∷ weight_place 5 1 63 ∷ (11 + weight_place 5 1 63) ∷ [] ≡ 0 ∷ 767 ∷ 778 ∷ []
weight_ends = refl

-- a black king's entry on h8, taken apart again
entry_apart : kind_at 767 ∷ square_at 767 ∷ colour_at 767 ∷ [] ≡ 5 ∷ 63 ∷ 1 ∷ []
entry_apart = refl
