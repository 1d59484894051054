-- What is claimed of a summary (document 02, W-214), about what `add_record` and `replace_record` promise. Definitions only.
use Rattle.std.specs.Prelude.{◌≡◌, List, [], ◌∷◌, ℕ, ◌≤◌, eqb, get_or, replicate, Result}
use Rattle.laws.specs.Sums.{sum_n}
use Rattle.bits.specs.Bitboard.{how_many}
use Rattle.position.specs.declared.State.{State}
use Rattle.store_record.specs.Record.{code_in, record_at}
use Rattle.store_counts.specs.Summary.{count_place, summary_afresh}
use Rattle.store_summary.specs.Promises.{AddsRecord, ReplacesRecord, records_in}
use Rattle.refusal.specs.declared.Refusal.{Refusal}

-- a call: what it was lent beside the store and the summary, what it answered, and what it left
pub data SummaryCall : Type 0 where
  adding : List ℕ → List ℕ → State → ℕ → Result Unit Refusal → List ℕ → List ℕ → SummaryCall
  replacing : List ℕ → List ℕ → State → ℕ → ℕ → Result Unit Refusal → List ℕ → List ℕ → SummaryCall

-- "over any calls": each does what it promises, from what the call before it left; refused ones too
unfoldable pub Calls : List ℕ → List ℕ → List SummaryCall → List ℕ → List ℕ → Type 0
Calls run summary [] last lastSummary = (run ≡ last) × (summary ≡ lastSummary)
Calls run summary (adding bitboards board state half r run' summary' ∷ more) last lastSummary =
    AddsRecord bitboards board state half run summary r run' summary' × Calls run' summary' more last lastSummary
Calls run summary (replacing bitboards board state half number r run' summary' ∷ more) last lastSummary =
    ReplacesRecord bitboards board state half number run summary r run' summary' × Calls run' summary' more last lastSummary

-- the summary of "an empty store"
abbrev pub empty_summary : List ℕ
empty_summary = replicate 770 0

-- "the pieces counted in the records": those of a code in one record
abbrev pub pieces_in : ℕ → List ℕ → ℕ
pieces_in code bytes = how_many 64 (λ k. eqb (code_in bytes k) code)

-- "it equals the summary worked out afresh from the records", as many as it says; "and the piece totals over all squares equal the pieces
-- counted in the records"
pub record Totals (last lastSummary : List ℕ) : Type 0 where
  pub afresh : lastSummary ≡ summary_afresh last (records_in lastSummary)
  pub pieces : (code : ℕ) → 2 ≤ code → code ≤ 13
      → sum_n 64 (λ k. get_or lastSummary (count_place code k) 0) ≡ sum_n (records_in lastSummary) (λ i. pieces_in code (record_at last i))

-- THE CLAIM: "From an empty store, over any calls", whatever the lent run held
abbrev pub FromEmpty : Type 0
FromEmpty =
    (run : List ℕ) (calls : List SummaryCall) (last lastSummary : List ℕ) → Calls run empty_summary calls last lastSummary → Totals last lastSummary
