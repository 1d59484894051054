-- A flat trace turned into a list, and a list turned flat, by document 02, W-208. The counts beside the entries are the same in both forms, and
-- are tested with them. Definitions only.
use Rattle.std.specs.Prelude.{◌≡◌, ◌&&◌, List, ℕ, eqb, leb, ℤ, length, Result, Ok, Err}
use Rattle.refusal.specs.Answer.{Answer, given, refused, or_refuse, refusal_of, answered}
use Rattle.refusal.specs.declared.Refusal.TheVariants as R
use Rattle.trace_counts.specs.Ranges.{in_ranges, are_entries}
use Rattle.trace_counts.specs.declared.Trace.{Trace}
use Rattle.trace_list.specs.Form.{is_list, list_places, ones_in, list_bytes, flat_of}
use Rattle.refusal.specs.declared.Refusal.{Refusal}

-- ---- from flat to list: SHAPE, TRACE, and ENTRY "for a flat trace with more than 64 ones"
-- how many entries the list has
abbrev pub listed_of : Trace → List ℤ → Answer ℕ
listed_of t entries =
    or_refuse (eqb (length entries) 768) R.Shape
    (or_refuse (in_ranges t && are_entries entries) R.Trace (or_refuse (leb (length (ones_in entries)) 64) R.Entry (given (length (ones_in entries)))))

-- "a refusal .. changes no lent byte"
abbrev pub bytes_after_rule : Answer ℕ → List ℤ → List ℕ → List ℕ
bytes_after_rule (given n) entries bytes = list_bytes (ones_in entries)
bytes_after_rule (refused n l) entries bytes = bytes

pub record ListsTrace (t : Trace) (entries : List ℤ) (before : List ℕ) (r : Result ℕ Refusal) (after : List ℕ) : Type 0 where
  pub answer : answered r ≡ listed_of t entries
  pub lent : after ≡ bytes_after_rule (listed_of t entries) entries before

-- ---- from list to flat: SHAPE if "not .. 768 trace entries", TRACE for the counts, ENTRY
abbrev pub flattened_of : Trace → ℕ → List ℕ → List ℤ → Answer (List ℤ)
flattened_of t used bytes entries =
    or_refuse (eqb (length entries) 768) R.Shape
    (or_refuse (in_ranges t) R.Trace (or_refuse (is_list used bytes) R.Entry (given (flat_of (list_places bytes used)))))

abbrev pub flattened_paper : Result Unit Refusal → List ℤ → Answer (List ℤ)
flattened_paper (Ok tt) after = given after
flattened_paper (Err r) after = refusal_of r

abbrev pub flat_after_rule : Answer (List ℤ) → List ℤ → List ℤ
flat_after_rule (given after) entries = after
flat_after_rule (refused n l) entries = entries

pub record Flattens (t : Trace) (used : ℕ) (bytes : List ℕ) (before : List ℤ) (r : Result Unit Refusal) (after : List ℤ) : Type 0 where
  pub answer : flattened_paper r after ≡ flattened_of t used bytes before
  pub lent : after ≡ flat_after_rule (flattened_of t used bytes before) before
