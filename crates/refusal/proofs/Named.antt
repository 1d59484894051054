-- The refusals that name no square: what is left once the six that do are told. Assumes nothing.
use mathlib.Core.Path.{◌≡◌, refl}
use mathlib.Core.List.{List, [], ◌∷◌}
use Prim.Native.Nat.{ℕ}
use types.Run.{OneOf, miss}
use denote.Enum.Declared.{tag_of}
use Rattle.refusal.specs.Refusals.{beside_of}
use Rattle.refusal.specs.declared.Refusal.{Refusal}
use Rattle.refusal.specs.contracts.Refusal.{the_type}
use Rattle.refusal.specs.declared.Refusal.TheVariants as R

-- their places in the table, from 0
abbrev pub unnamed : List ℕ
unnamed = 0 ∷ 1 ∷ 2 ∷ 3 ∷ 4 ∷ 5 ∷ 6 ∷ 7 ∷ 8 ∷ 9 ∷ 10 ∷ 11 ∷ 15 ∷ 16 ∷ 18 ∷ 19 ∷ 20 ∷ 21 ∷ 22 ∷ 23 ∷ 24 ∷ 27 ∷ 28 ∷ 29 ∷ 30 ∷ []

pub none_named : (r : Refusal) → OneOf unnamed (tag_of the_type r) → [] ≡ beside_of r
none_named R.Shape o = refl
none_named R.Score o = refl
none_named R.Square o = refl
none_named R.Move o = refl
none_named R.Crowd o = refl
none_named R.Trace o = refl
none_named R.Long o = refl
none_named R.Byte o = refl
none_named R.Field o = refl
none_named R.Place o = refl
none_named R.Side o = refl
none_named R.Result o = refl
none_named (R.Overlap s) o = absurd (miss unnamed 12 tt o)
none_named (R.Union s) o = absurd (miss unnamed 13 tt o)
none_named (R.Byteboard s) o = absurd (miss unnamed 14 tt o)
none_named R.Room o = refl
none_named R.Length o = refl
none_named (R.Code s) o = absurd (miss unnamed 17 tt o)
none_named R.Order o = refl
none_named R.Entry o = refl
none_named R.Many o = refl
none_named R.Iteration o = refl
none_named R.Kings o = refl
none_named R.Pawns o = refl
none_named R.Pieces o = refl
none_named (R.Rank s) o = absurd (miss unnamed 25 tt o)
none_named (R.Check s) o = absurd (miss unnamed 26 tt o)
none_named R.Rights o = refl
none_named R.Passant o = refl
none_named R.Counter o = refl
none_named R.Absent o = refl
