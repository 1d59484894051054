-- Worked examples of the definitions, by computation: a million lines are taken and one more is not, of either kind. Assumes nothing.
use mathlib.Core.Path.{◌≡◌, refl}
use mathlib.Core.List.{[], ◌∷◌}
use Prim.Native.Nat.{ℕ}
use Rattle.refusal.specs.Answer.{Answer, given, refused}
use Rattle.score_errors.specs.declared.Totals.{Totals}
use Rattle.score_joined.specs.Sums.{sums_joined, sums_joined_from}

sum : ℕ → ℕ → ℕ → ℕ → Answer (Totals × ℕ)
sum s a q r = given (record { scored = s; apart = a; sum = q }, r)

three : sums_joined_from (sum 0 0 0 0) (sum 2 1 131662932545 1 ∷ sum 0 3 0 0 ∷ sum 5 0 7 4 ∷ []) ≡ sum 7 4 131662932552 5
unfolding sum sums_joined_from
three = refl

bounds : sums_joined (sum 600000 0 0 0) (sum 400000 1000000 1 0) ∷ sums_joined (sum 600000 0 0 0) (sum 400001 0 1 0) ∷ sums_joined (sum 0 1000000 0 0)
    (sum 0 1 0 0) ∷ []
    ≡ sum 1000000 1000000 1 0 ∷ refused 22 [] ∷ refused 22 [] ∷ []
unfolding sum
bounds = refl

-- the first part that was refused
first : sums_joined_from (sum 1 0 0 0) (refused 22 [] ∷ refused 1 [] ∷ []) ≡ refused 22 []
unfolding sum sums_joined_from
first = refl
