-- How a record that was added or replaced passes its door. Assumes nothing.
use mathlib.Core.Path.{◌≡◌, refl, ap, subst, ◌∙◌}
use mathlib.Core.List.{List}
use Prim.Native.Nat.{ℕ}
use Rattle.refusal.specs.Answer.{Answer, given, refused, answered}
use Rattle.store_summary.specs.Promises.{Store, beside, add_of, replace_of, is_kept, AddsRecord, ReplacesRecord}
use Rattle.position.specs.declared.State.{State}
use Rattle.abi_states.specs.States.{state_taken}
use Rattle.abi_states.specs.declared.State.{State as Stated}
use Rattle.abi_codes.specs.Codes.{answer_number}
use Rattle.abi_codes.specs.declared.Code.{Code}
use Rattle.abi_codes.proofs.Passed.{met}
use Rattle.abi_summaries.specs.Promises.{RecordAdded, RecordReplaced}
use Rattle.std.specs.Prelude.{Result}
use Rattle.refusal.specs.declared.Refusal.{Refusal}

kept_code : (a : Answer Store) → answer_number (is_kept a) ≡ answer_number a
kept_code (given s) = refl
kept_code (refused n v) = refl

pub record_added : {bitboards board : List ℕ} {state : Stated} {taken : State} {half : ℕ} {run summary : List ℕ} {r x : Result Unit Refusal} {n : Code}
    {run' summary' : List ℕ}
    → taken ≡ state_taken state → AddsRecord bitboards board taken half run summary r run' summary' → r ≡ x → n ≡ answer_number (answered x)
    → RecordAdded bitboards board state half run summary n run' summary'
record_added {bitboards = bitboards} {board = board} {state = state} {half = half} {run = run} {summary = summary} {r = r} {run' = run'}
    {summary' = summary'} t w m h =
    let p : AddsRecord bitboards board (state_taken state) half run summary r run' summary' =
    subst (λ (y : State). AddsRecord bitboards board y half run summary r run' summary') t w in
    record {
      code = h ∙ ap answer_number (met answered p.answer m) ∙ kept_code (add_of bitboards board (state_taken state) half (beside run summary));
      bytes = p.run;
      counts = p.summary;
    }

pub record_replaced : {bitboards board : List ℕ} {state : Stated} {taken : State} {half number : ℕ} {run summary : List ℕ} {r x : Result Unit Refusal} {n : Code}
    {run' summary' : List ℕ}
    → taken ≡ state_taken state → ReplacesRecord bitboards board taken half number run summary r run' summary' → r ≡ x → n ≡ answer_number (answered x)
    → RecordReplaced bitboards board state half number run summary n run' summary'
record_replaced {bitboards = bitboards} {board = board} {state = state} {half = half} {number = number} {run = run} {summary = summary} {r = r}
    {run' = run'} {summary' = summary'} t w m h =
    let p : ReplacesRecord bitboards board (state_taken state) half number run summary r run' summary' =
    subst (λ (y : State). ReplacesRecord bitboards board y half number run summary r run' summary') t w in
    record {
      code = h ∙ ap answer_number (met answered p.answer m) ∙ kept_code (replace_of bitboards board (state_taken state) half number (beside run summary));
      bytes = p.run;
      counts = p.summary;
    }
