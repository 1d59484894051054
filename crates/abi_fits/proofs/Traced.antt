-- How a trace and the shipped weights pass their doors. Assumes nothing.
use mathlib.Core.Path.{◌≡◌, ap, ◌∙◌}
use mathlib.Core.List.{List}
use Prim.Native.Nat.{ℕ}
use lib.Ieee.{Float}
use lib.IntN.{ℤ}
use Rattle.refusal.specs.Answer.{Answer}
use Rattle.position.specs.declared.State.{State}
use Rattle.trace_counts.specs.declared.Trace.{Trace}
use Rattle.trace.specs.Promises.{traced_of, entries_after}
use Rattle.trace_shipped.specs.Promises.{written_answer, squares_after}
use Rattle.trace_shipped.specs.Weights.{shipped}
use Rattle.abi_codes.specs.Codes.{answer_number, lent_after}
use Rattle.abi_records.specs.Records.{counts_of_rule, named_of}
use Rattle.abi_states.specs.States.{state_taken}
use Rattle.abi_states.specs.declared.State.{State as Stated}
use Rattle.abi_fits.specs.Promises.{ComputesTrace, Ships}
use Rattle.abi_codes.specs.declared.Code.{Code}

pub traced : (bbs bytes : List ℕ) (state : Stated) {taken : State} {counts mobility : List ℤ} {sign pieces : ℤ} {entries : List ℤ}
    {x : Answer Trace} {n : Code} {counts' mobility' : List ℤ} {sign' pieces' : ℤ} {entries' : List ℤ}
    → taken ≡ state_taken state → x ≡ traced_of bbs bytes taken entries → n ≡ answer_number x → counts' ≡ lent_after counts_of_rule counts x
    → mobility' ≡ lent_after (λ (t : Trace). t.mobility) mobility x
    → sign' ≡ lent_after (λ (t : Trace). t.side) sign x → pieces' ≡ lent_after (λ (t : Trace). t.piece_count) pieces x
    → entries' ≡ entries_after (traced_of bbs bytes taken entries) bbs entries
    → ComputesTrace bbs bytes state counts mobility sign pieces entries n counts' mobility' sign' pieces' entries'
traced bbs bytes state {counts = counts} {mobility = mobility} {sign = sign} {pieces = pieces} {entries = entries} t q h g m s p k =
    let e = q ∙ ap (λ (y : State). traced_of bbs bytes y entries) t in
    record {
      code = h ∙ ap answer_number e;
      counted = g ∙ ap (lent_after counts_of_rule counts) e;
      moved = m ∙ ap (lent_after (λ (t : Trace). t.mobility) mobility) e;
      turn = s ∙ ap (lent_after (λ (t : Trace). t.side) sign) e;
      total = p ∙ ap (lent_after (λ (t : Trace). t.piece_count) pieces) e;
      marked = k ∙ ap (λ (y : State). entries_after (traced_of bbs bytes y entries) bbs entries) t;
    }

pub ships : {weights squares : List Float} {x : Answer Unit} {n : Code} {weights' squares' : List Float}
    → x ≡ written_answer squares → n ≡ answer_number x → weights' ≡ lent_after (λ (u : Unit). named_of shipped) weights x → squares' ≡ squares_after squares
    → Ships weights squares n weights' squares'
ships {weights = weights} e h g k =
    record { code = h ∙ ap answer_number e; lent = g ∙ ap (lent_after (λ (u : Unit). named_of shipped) weights) e; written = k }
