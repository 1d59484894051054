-- What is claimed of the summary of a whole store (document 02, W-214), about what `start`, `feed` and `finish` promise. Definitions only.
use Rattle.std.specs.Prelude.{◌≡◌, cond, List, [], ◌∷◌, ℕ, ◌+◌, ◌-◌, ◌/◌, eqb, ltb, length}
use Rattle.refusal.specs.Answer.{Answer, given, refused, or_refuse}
use Rattle.refusal.specs.declared.Refusal.TheVariants as R
use Rattle.line_parse.specs.Line.{Line}
use Rattle.store_record.specs.Record.{piece_says}
use Rattle.store_cut.specs.Pieces.{pieces_of}
use Rattle.store_counts.specs.Summary.{summary_afresh}
use Rattle.store_totals.specs.Totals.{empty_summary}
use Rattle.store_gather.specs.declared.First.{First}
use Rattle.store_gathered.specs.Calls.{GatherCall, GatherCallsMade, gather_input, fresh_gather}

-- ---- the first record that is refused
-- what a piece says at its number, from 1: "MANY for a record .. past the 10,000,000th"; else 19, 12 or 13, or 18 for "a short last piece"
abbrev pub says_at : ℕ → List ℕ → Answer Line
says_at number piece = or_refuse (ltb number 10000001) R.Many (piece_says piece)

abbrev pub or_later : ℕ → Answer Line → First → First
or_later number (given l) later = later
or_later number (refused n beside) later = record { number = number; refusal = n }

-- of pieces that are numbered from here on; 0 where none is refused
unfoldable pub first_refused : ℕ → List (List ℕ) → First
first_refused number [] = record { number = 0; refusal = 0 }
first_refused number (p ∷ ps) = let later : First = first_refused (number + 1) ps in or_later number (says_at number p) later

-- how many records stand before it: all where there is none
abbrev pub read_before : First → List ℕ → ℕ
read_before first input = cond (eqb first.number 0) (length input / 34) (first.number - 1)

-- ---- THE CLAIM: for every way a store is cut into chunks, whatever the piece buffer held
pub record WholeSummary (input : List ℕ) (first : First) (last : List ℕ) : Type 0 where
  -- the first refusal with its number; none exactly where no record is refused
  pub told : first ≡ first_refused 1 (pieces_of input)
  -- "the summary worked out afresh from the records": of all of them where none is refused, else of those before the first
  pub afresh : last ≡ summary_afresh input (read_before first input)

abbrev pub GatheredWhole : Type 0
GatheredWhole =
    (piece : List ℕ) (calls : List GatherCall) (first : First) (last : List ℕ) → length piece ≡ 34
    → GatherCallsMade fresh_gather piece empty_summary calls first last → WholeSummary (gather_input calls) first last
