-- Worked examples of the definitions, by computation. Assumes nothing.
use mathlib.Core.Path.{◌≡◌, refl}
use mathlib.Core.Bool.{true, false}
use mathlib.Core.List.{List, [], ◌∷◌}
use Prim.Native.Nat.{ℕ}
use Rattle.refusal.specs.Answer.{Answer, given, refused, or_refuse, below}
use Rattle.refusal.specs.declared.Refusal.TheVariants as R

-- the first test that fails decides; a square comes beside the number, a1 too
firsts : List (Answer ℕ)
firsts =
    or_refuse true R.Shape (or_refuse true (R.Overlap 7) (given 1))
    ∷ or_refuse true R.Shape (or_refuse false (R.Overlap 0) (given 1))
    ∷ or_refuse false R.Shape (or_refuse false (R.Overlap 7) (given 1))
    ∷ []

firsts_are : firsts ≡ given 1 ∷ refused 14 (0 ∷ []) ∷ refused 1 [] ∷ []
unfolding firsts
firsts_are = refl

-- the last number taken, and the first refused
bounds : below 64 R.Square 63 ∷ below 64 R.Square 64 ∷ [] ≡ given 63 ∷ refused 4 [] ∷ []
bounds = refl
