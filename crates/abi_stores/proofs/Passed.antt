-- How a record that was written passes its door. Assumes nothing.
use mathlib.Core.Path.{◌≡◌, refl, ap, subst, ◌∙◌}
use mathlib.Core.List.{List}
use Prim.Native.Nat.{ℕ}
use Rattle.refusal.specs.Answer.{Answer, given, refused, answered}
use Rattle.position.specs.declared.State.{State}
use Rattle.store_record.specs.Promises.{WritesRecord, store_of, is_stored}
use Rattle.abi_states.specs.States.{state_taken}
use Rattle.abi_states.specs.declared.State.{State as Stated}
use Rattle.abi_codes.specs.Codes.{answer_number}
use Rattle.abi_codes.specs.declared.Code.{Code}
use Rattle.abi_codes.proofs.Passed.{met}
use Rattle.abi_stores.specs.Promises.{RecordWritten}
use Rattle.std.specs.Prelude.{Result}
use Rattle.refusal.specs.declared.Refusal.{Refusal}

pub stored_code : (a : Answer (List ℕ)) → answer_number (is_stored a) ≡ answer_number a
stored_code (given bytes) = refl
stored_code (refused n v) = refl

pub record_written : {bitboards board : List ℕ} {state : Stated} {taken : State} {half : ℕ} {place : List ℕ} {r x : Result Unit Refusal} {n : Code} {place' : List ℕ}
    → taken ≡ state_taken state → WritesRecord bitboards board taken half place r place' → r ≡ x → n ≡ answer_number (answered x)
    → RecordWritten bitboards board state half place n place'
record_written {bitboards = bitboards} {board = board} {state = state} {half = half} {place = place} {r = r} {place' = place'} t w m h =
    let p : WritesRecord bitboards board (state_taken state) half place r place' =
    subst (λ (y : State). WritesRecord bitboards board y half place r place') t w in
    record {
      code = h ∙ ap answer_number (met answered p.answer m) ∙ stored_code (store_of bitboards board (state_taken state) half place);
      bytes =
          p.bytes;
    }
