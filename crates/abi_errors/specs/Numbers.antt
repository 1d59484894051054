-- What is kept of a collection's sum as numbers that C lends, both ways. Definitions only.
use Rattle.std.specs.Prelude.{Bool, cond, not, List, [], ◌∷◌, ℕ, eqb, ℤ, get_or}
use Rattle.refusal.specs.Answer.{Answer, given, refusal_of}
use Rattle.refusal.specs.declared.Refusal.TheVariants as R
use Rattle.score.specs.Score.{Outcome, score}
use Rattle.score_errors.specs.declared.Totals.{Totals}
use Rattle.score_collection.specs.declared.Gathered.{Gathered}
use Rattle.abi_codes.specs.Codes.{flag_of}

-- lines with a score, lines apart, the sum
abbrev pub totals_from : List ℕ → Totals
totals_from l = record { scored = get_or l 0 0; apart = get_or l 1 0; sum = get_or l 2 0 }

abbrev pub total_numbers : Totals → List ℕ
total_numbers t = t.scored ∷ t.apart ∷ t.sum ∷ []

-- bytes held of the line that has not ended, whether the last was a CR; the totals; refused lines; whether a count had no room
abbrev pub gathered_from : List ℕ → Gathered
gathered_from l = record {
  begun = record { held = get_or l 0 0; cr = not (eqb (get_or l 1 0) 0) };
  sum = record {
    totals = record { scored = get_or l 2 0; apart = get_or l 3 0; sum = get_or l 4 0 };
    refused = get_or l 5 0;
    full = not (eqb (get_or l 6 0) 0);
  };
}

abbrev pub gathered_numbers : Gathered → List ℕ
gathered_numbers g =
    g.begun.held ∷ flag_of g.begun.cr ∷ g.sum.totals.scored ∷ g.sum.totals.apart ∷ g.sum.totals.sum ∷ g.sum.refused ∷ flag_of g.sum.full ∷ []

-- a line's answer: its score, or `over`, which is counted apart as a verdict is
abbrev pub answer_from : Bool → ℤ → Answer Outcome
answer_from t z = cond t (given (score z)) (refusal_of R.Score)
