-- A record put into its run and counted, and one taken off. Assumes nothing.
use mathlib.Core.Path.{◌≡◌, sym, ap, ◌∙◌}
use mathlib.Core.List.{List, ◌++◌}
use Prim.Native.Nat.{ℕ, ◌+◌, ◌*◌, ◌-◌, ◌/◌, ◌<◌}
use native.Mathlib.Omega.{arith}
use lib.ListN.{length, take, drop, length-drop}
use lib.Seq.{length-take-le}
use Rattle.text_out.specs.Text.{written_of}
use Rattle.text_out.proofs.Wrote.{written_is}
use Rattle.store_record.specs.Record.{record_at}
use Rattle.store_counts.specs.Summary.{summary_more, summary_less}
use Rattle.store_counts.specs.Promises.{CountsRecord, UncountsRecord}
use Rattle.store_counts.proofs.Sizes.{sized}
use Rattle.store_summary.specs.Promises.{with_record, HasPlace, Keeps, TakesOff}

-- a record of a run has 34 bytes
pub record_size : (run : List ℕ) (i : ℕ) → i < length run / 34 → length (record_at run i) ≡ 34
record_size run i h = length-take-le 34 (drop (34 * i) run) (omega (arith, length-drop (34 * i) run))

its_bytes : (run : List ℕ) (number : ℕ) → take (34 * number + 34 - 34 * number) (drop (34 * number) run) ≡ record_at run number
its_bytes run number = let n : 34 * number + 34 - 34 * number ≡ 34 = omega arith in ap (λ (n : ℕ). take n (drop (34 * number) run)) n

pub taking_off : (run summary summary' : List ℕ) (number : ℕ) → HasPlace run summary number
    → UncountsRecord summary (take (34 * number + 34 - 34 * number) (drop (34 * number) run)) summary' → TakesOff run summary number summary'
taking_off run summary summary' number h e =
    let bytes : List ℕ = take (34 * number + 34 - 34 * number) (drop (34 * number) run) in
    let p = its_bytes run number in
    e ∙ sym (sized summary bytes (summary_less summary bytes) h.size (ap length p ∙ record_size run number h.there)) ∙ ap (summary_less summary) p

put_is : (run run' : List ℕ) (number : ℕ) (bytes : List ℕ) → number < length run / 34 → length bytes ≡ 34 → run' ≡ written_of run (34 * number) bytes
    → run' ≡ with_record run number bytes
unfolding with_record
put_is run run' number bytes h n e =
    e ∙ written_is run (34 * number) bytes (omega arith) ∙ ap (λ (m : ℕ). take (34 * number) run ++ (bytes ++ drop (34 * number + m) run)) n

pub keeping : (run summary : List ℕ) (number : ℕ) (bytes run' summary' : List ℕ) → HasPlace run summary number → length bytes ≡ 34
    → run' ≡ written_of run (34 * number) bytes → CountsRecord summary bytes summary' → Keeps run summary number bytes run' summary'
keeping run summary number bytes run' summary' h n p e =
    record { put = put_is run run' number bytes h.there n p; counted = e ∙ sym (sized summary bytes (summary_more summary bytes) h.size n) }
