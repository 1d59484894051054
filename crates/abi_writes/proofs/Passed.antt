-- How the writer's answer passes its door. Assumes nothing.
use mathlib.Core.Path.{◌≡◌, sym, ap, subst, ◌∙◌}
use mathlib.Core.List.{List}
use Prim.Native.Nat.{ℕ}
use Rattle.refusal.specs.Answer.{given, refusal_of, answered}
use Rattle.refusal.specs.declared.Refusal.{Refusal}
use Rattle.position.specs.declared.State.{State}
use Rattle.line_write.specs.Promises.{WritesLine}
use Rattle.abi_states.specs.States.{state_taken}
use Rattle.abi_states.specs.declared.State.{State as Stated}
use Rattle.abi_codes.specs.Codes.{answer_number, lent_after, as_it_is}
use Rattle.abi_codes.specs.declared.Code.{Code}
use Rattle.abi_writes.specs.Promises.{wanted_of, WritesPosition}
use Rattle.std.specs.Prelude.{Result, Ok, Err, Option}

module _ (bitboards board : List ℕ) (state : Stated) (taken : State) (from : taken ≡ state_taken state) (request half : ℕ) (out : List ℕ) (bytes : ℕ)
    (out' : List ℕ) (want : Option ℕ) (is : want ≡ wanted_of request half) (w : Result ℕ Refusal)
    (promise : WritesLine bitboards board taken want out out' w) where
  wrote : WritesLine bitboards board (state_taken state) (wanted_of request half) out out' w
  wrote =
      subst (λ (s : State). WritesLine bitboards board s (wanted_of request half) out out' w) from
      (subst (λ (x : Option ℕ). WritesLine bitboards board taken x out out' w) is promise)

  pub passed_refusal : (q : Refusal) → w ≡ Err q → (r : Code) → r ≡ answer_number (refusal_of {A = ℕ} q)
      → WritesPosition bitboards board state request half out bytes r out' bytes
  passed_refusal q e r h =
      let p = sym (ap answered e) ∙ wrote.answer in
      record { code = h ∙ ap answer_number p; buffer = wrote.buffer; used = ap (lent_after as_it_is bytes) p }

  pub passed_bytes : (n : ℕ) → w ≡ Ok n → (r : Code) → r ≡ answer_number (given n) → WritesPosition bitboards board state request half out bytes r out' n
  passed_bytes n e r h =
      let p = sym (ap answered e) ∙ wrote.answer in
      record { code = h ∙ ap answer_number p; buffer = wrote.buffer; used = ap (lent_after as_it_is bytes) p }
