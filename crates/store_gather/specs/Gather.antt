-- The summary of a whole store, piece by piece (document 02, W-214). Definitions only.
use Rattle.std.specs.Prelude.{cond, List, ℕ, ◌+◌, eqb, ltb}
use Rattle.refusal.specs.Answer.{Answer, given, refused}
use Rattle.line_parse.specs.Line.{Line}
use Rattle.store_record.specs.Record.{piece_says}
use Rattle.store_counts.specs.Summary.{summary_more}
use Rattle.store_counts.specs.Promises.{if_sized}
use Rattle.store_summary.specs.Promises.{records_in}

-- the summary, and the first record that has no place in it: its number, from 1, and why. The number is 0 where there is none
pub record Gathered : Type 0 where
  pub summary : List ℕ
  pub number : ℕ
  pub refusal : ℕ

abbrev pub gathered : List ℕ → ℕ → ℕ → Gathered
gathered summary number refusal = record { summary = summary; number = number; refusal = refusal }

-- a record that is read is counted, one that is refused is the first
abbrev pub or_first : List ℕ → List ℕ → Answer Line → Gathered
or_first summary piece (given l) = gathered (if_sized summary piece (summary_more summary piece)) 0 0
or_first summary piece (refused n v) = gathered summary (records_in summary + 1) n

-- "MANY for a record .. past the 10,000,000th": 22
abbrev pub count_piece : Gathered → List ℕ → Gathered
count_piece s piece =
    cond (eqb s.number 0) (cond (ltb (records_in s.summary) 10000000) (or_first s.summary piece (piece_says piece)) (gathered s.summary 10000001 22)) s
