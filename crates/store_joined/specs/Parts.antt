-- WHAT IS CLAIMED OF JOINED SUMMARIES: what is told of stores, put together, is what is told of their bytes one after another (document 02, W-214).
-- Definitions only.
use Rattle.std.specs.Prelude.{◌≡◌, ℕ, ◌+◌, ◌%◌, Bool, true, cond, ◌&&◌, List, [], ◌∷◌, ◌++◌, map, length, ◌==◌, nat_lt}
use Rattle.refusal.specs.Answer.{Answer, given, refused, or_refuse}
use Rattle.refusal.specs.declared.Refusal.TheVariants as R
use Rattle.ledger_whole.specs.Whole.{joined}
use Rattle.store_cut.specs.Pieces.{pieces_of}
use Rattle.store_counts.specs.Summary.{summary_afresh}
use Rattle.store_summary.specs.Promises.{records_in}
use Rattle.store_totals.specs.Totals.{empty_summary}
use Rattle.store_gather.specs.Gather.{Gathered, gathered}
use Rattle.store_gather.specs.declared.First.{First}
use Rattle.store_gathered.specs.Calls.{GatherCall, GatherCallsMade, gather_input, fresh_gather}
use Rattle.store_gathered.specs.Gathered.{first_refused, read_before}
use Rattle.store_joined.specs.Summaries.{summaries_joined}

-- ---- what is told of a store: the first record that is refused, by its number from 1 and its refusal, and the summary of those before it; no number where
-- none is refused. MANY where the first refused one is the 10,000,001st
abbrev pub told_by : First → List ℕ → Answer Gathered
told_by first summary = or_refuse (nat_lt first.number 10000001) R.Many (given (gathered summary first.number first.refusal))

abbrev pub told_up_to : List ℕ → First → Answer Gathered
told_up_to store first = told_by first (summary_afresh store (read_before first store))

abbrev pub store_told : List ℕ → Answer Gathered
store_told store = told_up_to store (first_refused 1 (pieces_of store))

-- it is what the calls of store_gather's `feed` and `finish` give, for every way the store is cut into chunks, whatever the piece buffer held
abbrev pub ToldByCalls : Type 0
ToldByCalls =
    (piece : List ℕ) (calls : List GatherCall) (first : First) (last : List ℕ) → length piece ≡ 34
    → GatherCallsMade fresh_gather piece empty_summary calls first last → told_by first last ≡ store_told (gather_input calls)

-- ---- two stores, of which the second follows the first
-- its first refused record comes after all that are counted: MANY where it is the 10,000,001st
abbrev pub first_after : Gathered → Answer (List ℕ) → Answer Gathered
first_after b (given summary) =
    cond (b.number == 0) (given (gathered summary 0 0))
    (or_refuse (nat_lt (records_in summary) 10000000) R.Many (given (gathered summary (records_in summary + 1) b.refusal)))
first_after b (refused n v) = refused n v

abbrev pub told_after : Gathered → Answer Gathered → Answer Gathered
told_after a (given b) = first_after b (summaries_joined a.summary b.summary)
told_after a (refused n v) = refused n v

-- nothing is counted after a record that is refused
abbrev pub stores_told : Answer Gathered → Answer Gathered → Answer Gathered
stores_told (given a) b = cond (a.number == 0) (told_after a b) (given a)
stores_told (refused n v) b = refused n v

-- any number of stores, one after another
unfoldable pub stores_told_from : Answer Gathered → List (Answer Gathered) → Answer Gathered
stores_told_from a [] = a
stores_told_from a (b ∷ bs) = stores_told_from (stores_told a b) bs

-- ---- parts of a store: none but the last has a short last piece
unfoldable pub at_record_ends : List (List ℕ) → Bool
at_record_ends [] = true
at_record_ends (p ∷ []) = true
at_record_ends (p ∷ (q ∷ ps)) = length p % 34 == 0 && at_record_ends (q ∷ ps)

-- THE THEOREM: for any stores, however many, the summaries of each joined to those before it are the summary of their bytes one after another, with the
-- first record that is refused by its number in the whole: MANY exactly where that is
pub record SummariesOfParts (parts : List (List ℕ)) : Type 0 where
  pub whole : at_record_ends parts ≡ true → stores_told_from (given (gathered empty_summary 0 0)) (map store_told parts) ≡ store_told (joined parts)

-- and of two stores, so that parts may be joined in any grouping
pub record SummariesOfTwo (a b : List ℕ) : Type 0 where
  pub whole : length a % 34 ≡ 0 → stores_told (store_told a) (store_told b) ≡ store_told (a ++ b)
