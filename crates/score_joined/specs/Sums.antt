-- The sums over parts of a collection put together (document 02, W-210). Definitions only.
use Rattle.std.specs.Prelude.{List, [], ◌∷◌, ℕ, ◌+◌, ◌^◌, leb, ltb}
use Rattle.refusal.specs.Answer.{Answer, given, refused, or_refuse}
use Rattle.refusal.specs.declared.Refusal.TheVariants as R
use Rattle.score_errors.specs.declared.Totals.{Totals}

-- each total of both
abbrev pub totals_of_both : Totals → Totals → Totals
totals_of_both x y = record { scored = x.scored + y.scored; apart = x.apart + y.apart; sum = x.sum + y.sum }

-- "22 MANY at the 1,000,001st of either kind or past 64 bits": the totals, and the refused lines
abbrev pub sum_of_both : Totals × ℕ → Totals × ℕ → Answer (Totals × ℕ)
sum_of_both x y =
    or_refuse (leb (x.0.scored + y.0.scored) 1000000) R.Many
    (or_refuse (leb (x.0.apart + y.0.apart) 1000000) R.Many
    (or_refuse (ltb (x.0.sum + y.0.sum) (2 ^ 64)) R.Many
    (or_refuse (ltb (x.1 + y.1) (2 ^ 64)) R.Many
    (given (totals_of_both x.0 y.0, x.1 + y.1)))))

-- two parts: one that was refused is refused again, the first before the second
abbrev pub sums_joined : Answer (Totals × ℕ) → Answer (Totals × ℕ) → Answer (Totals × ℕ)
sums_joined (given x) (given y) = sum_of_both x y
sums_joined (given x) (refused n v) = refused n v
sums_joined (refused n v) b = refused n v

-- any number of parts, one after another
unfoldable pub sums_joined_from : Answer (Totals × ℕ) → List (Answer (Totals × ℕ)) → Answer (Totals × ℕ)
sums_joined_from a [] = a
sums_joined_from a (b ∷ bs) = sums_joined_from (sums_joined a b) bs
