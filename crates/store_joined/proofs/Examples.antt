-- Worked examples of the definitions, by computation: two summaries, the 10,000,000th record and one more, and where the first refused record stands in
-- the whole. Assumes nothing.
use Rattle.std.proofs.Common.{◌≡◌, ℕ, true, false, List, [], ◌∷◌, get_or, replicate, refl}
use Rattle.laws.specs.Tables.{tabulate}
use Rattle.refusal.specs.Answer.{given, refused}
use Rattle.store_record.specs.Promises.{is_stored}
use Rattle.store_gather.specs.Gather.{gathered}
use Rattle.store_joined.specs.Summaries.{summary_of_both, summaries_joined}
use Rattle.store_joined.specs.Parts.{first_after, at_record_ends}

-- a summary of so many records and half points, without pieces
plain : ℕ → ℕ → List ℕ
plain records points = records ∷ points ∷ replicate 768 0

-- records, half points, and white pawns on a1
three : List ℕ → List ℕ
three s = get_or s 0 0 ∷ get_or s 1 0 ∷ get_or s 2 0 ∷ []

sums : three (summary_of_both (2 ∷ 3 ∷ 1 ∷ replicate 767 0) (5 ∷ 4 ∷ 0xffffffffffffffff ∷ replicate 767 0)) ≡ 7 ∷ 7 ∷ 0 ∷ []
unfolding three summary_of_both tabulate
sums = refl

bounds : is_stored (summaries_joined (plain 9999999 0) (plain 1 0)) ∷ is_stored (summaries_joined (plain 9999999 0) (plain 2 0)) ∷ is_stored
    (summaries_joined (plain 1 0) (7 ∷ [])) ∷ []
    ≡ given tt ∷ refused 22 [] ∷ refused 1 [] ∷ []
unfolding plain
bounds = refl

-- after two records the first of the next store that is refused is the third; after 10,000,000 it is MANY
third : first_after (gathered [] 1 19) (given (2 ∷ [])) ∷ first_after (gathered [] 1 19) (given (10000000 ∷ [])) ∷ first_after (gathered [] 0 0)
    (given (10000000 ∷ [])) ∷ []
    ≡ given (gathered (2 ∷ []) 3 19) ∷ refused 22 [] ∷ given (gathered (10000000 ∷ []) 0 0) ∷ []
third = refl

-- a short piece is taken in the last part alone
short : at_record_ends (replicate 34 0 ∷ replicate 33 0 ∷ []) ≡ true
unfolding at_record_ends
short = refl

short_before : at_record_ends (replicate 33 0 ∷ replicate 34 0 ∷ []) ≡ false
unfolding at_record_ends
short_before = refl
