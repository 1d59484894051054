-- What each function promises, for all inputs (document 02, W-214). Definitions only.
use Rattle.std.specs.Prelude.{◌≡◌, List, ◌++◌, ℕ, ◌+◌, ◌*◌, ◌/◌, ◌%◌, ◌<◌, eqb, ltb, length, get_or, take, drop, replicate, Result}
use Rattle.refusal.specs.Answer.{Answer, given, refused, or_refuse, answered}
use Rattle.refusal.specs.declared.Refusal.TheVariants as R
use Rattle.position.specs.declared.State.{State}
use Rattle.store_record.specs.Record.{record_at, stored_says}
use Rattle.store_record.specs.Promises.{WritesRecord, store_of}
use Rattle.store_counts.specs.Summary.{summary_more, summary_less}
use Rattle.store_summary.specs.declared.Prepared.{Prepared}
use Rattle.refusal.specs.declared.Refusal.{Refusal}

-- a store's run and "a summary beside it"
pub record Store : Type 0 where
  pub run : List ℕ
  pub summary : List ℕ

abbrev pub beside : List ℕ → List ℕ → Store
beside run summary = record { run = run; summary = summary }

-- how many records the summary counts
abbrev pub records_in : List ℕ → ℕ
records_in summary = get_or summary 0 0

-- the run with a record at a number
unfoldable pub with_record : List ℕ → ℕ → List ℕ → List ℕ
with_record run number bytes = take (34 * number) run ++ (bytes ++ drop (34 * number + 34) run)

-- "those of W-205, then": a refusal is passed on, and what was given goes on
abbrev pub if_given : {A B : Type 0} → Answer A → (A → Answer B) → Answer B
if_given (given a) rest = rest a
if_given (refused n v) rest = refused n v

-- a place of the record's own, of its 34 bytes
abbrev pub blank : List ℕ
blank = replicate 34 0

-- W-205's refusals of writing, after SHAPE "also for a summary not 770 long"; then what is done with the record
abbrev pub with_new : List ℕ → List ℕ → State → ℕ → Store → (List ℕ → Answer Store) → Answer Store
with_new bitboards board state half s rest = or_refuse (eqb (length s.summary) 770) R.Shape (if_given (store_of bitboards board state half blank) rest)

-- "18 LENGTH if the run is no multiple of 34", "MANY for a record added past the 10,000,000th, ROOM if the lent run has no place for it"
abbrev pub add_new : Store → List ℕ → Answer Store
add_new s bytes =
    or_refuse (eqb (length s.run % 34) 0) R.Length
    (or_refuse (ltb (records_in s.summary) 10000000) R.Many
    (or_refuse (ltb (records_in s.summary) (length s.run / 34)) R.Room
    (given (record { run = with_record s.run (records_in s.summary) bytes; summary = summary_more s.summary bytes }))))

unfoldable pub add_of : List ℕ → List ℕ → State → ℕ → Store → Answer Store
add_of bitboards board state half s = with_new bitboards board state half s (add_new s)

-- W-205's refusals of reading the old record, then "ABSENT for replacing one past the summary's records"
abbrev pub replace_old : ℕ → Store → List ℕ → Answer Store
replace_old number s bytes =
    if_given (stored_says s.run number)
    (λ old. or_refuse (ltb number (records_in s.summary)) R.Absent
    (given (record { run = with_record s.run number bytes; summary = summary_more (summary_less s.summary (record_at s.run number)) bytes })))

unfoldable pub replace_of : List ℕ → List ℕ → State → ℕ → ℕ → Store → Answer Store
replace_of bitboards board state half number s = with_new bitboards board state half s (replace_old number s)

-- ---- the answer without the store, and the memory: "with store and summary unchanged"
abbrev pub is_kept : Answer Store → Answer Unit
is_kept (given s) = given tt
is_kept (refused n v) = refused n v

abbrev pub store_after : Answer Store → Store → Store
store_after (given s) old = s
store_after (refused n v) old = old

pub record KeepsStore (a : Answer Store) (s : Store) (r : Result Unit Refusal) (run' summary' : List ℕ) : Type 0 where
  pub answer : answered r ≡ is_kept a
  pub run : run' ≡ (store_after a s).run
  pub summary : summary' ≡ (store_after a s).summary

abbrev pub AddsRecord : List ℕ → List ℕ → State → ℕ → List ℕ → List ℕ → Result Unit Refusal → List ℕ → List ℕ → Type 0
AddsRecord bitboards board state half run summary r run' summary' =
    KeepsStore (add_of bitboards board state half (beside run summary)) (beside run summary) r run' summary'

abbrev pub ReplacesRecord : List ℕ → List ℕ → State → ℕ → ℕ → List ℕ → List ℕ → Result Unit Refusal → List ℕ → List ℕ → Type 0
ReplacesRecord bitboards board state half number run summary r run' summary' =
    KeepsStore (replace_of bitboards board state half number (beside run summary)) (beside run summary) r run' summary'

-- ---- private functions
abbrev pub Prepares : List ℕ → List ℕ → State → ℕ → Prepared → Type 0
Prepares bitboards board state half r = WritesRecord bitboards board state half blank r.answer r.bytes

pub record HasPlace (run summary : List ℕ) (number : ℕ) : Type 0 where
  pub size : length summary ≡ 770
  pub there : number < length run / 34

pub record Keeps (run summary : List ℕ) (number : ℕ) (bytes run' summary' : List ℕ) : Type 0 where
  pub put : run' ≡ with_record run number bytes
  pub counted : summary' ≡ summary_more summary bytes

abbrev pub TakesOff : List ℕ → List ℕ → ℕ → List ℕ → Type 0
TakesOff run summary number summary' = summary' ≡ summary_less summary (record_at run number)
