-- How what is told of an exchange passes its door. Assumes nothing.
use mathlib.Core.Path.{◌≡◌, sym, ap, ap₂, subst, ◌∙◌}
use mathlib.Core.List.{List}
use Prim.Native.Nat.{ℕ}
use lib.ListN.{length}
use Rattle.refusal.specs.Answer.{Answer, given, refusal_of}
use Rattle.refusal.specs.declared.Refusal.{Refusal}
use Rattle.position.specs.declared.State.{State}
use Rattle.exchange_start.specs.declared.Mode.{Mode}
use Rattle.exchange_start.proofs.Begun.{tells, passes_on}
use Rattle.exchange_value.specs.Stop.{Stop}
use Rattle.exchange_value.specs.Answers.{stopped}
use Rattle.exchange.specs.Exchange.{Capture, captures_of}
use Rattle.exchange.specs.Listed.{column}
use Rattle.exchange.specs.Promises.{HoldsCaptures}
use Rattle.exchange_told.specs.Told.{told_of, the_captures, the_stop}
use Rattle.exchange_told.specs.Promises.{Captures}
use Rattle.exchange_told.specs.declared.Told.{Told}
use Rattle.exchange_told.proofs.Behind.{told_is}
use Rattle.abi_states.specs.States.{state_taken}
use Rattle.abi_states.specs.declared.State.{State as Stated}
use Rattle.abi_modes.specs.Modes.{in_mode, NamesMode}
use Rattle.abi_modes.proofs.Asked.{in_mode_holds, not_named}
use Rattle.abi_codes.specs.Codes.{answer_number, lent_after}
use Rattle.abi_codes.specs.declared.Code.{Code}
use Rattle.abi_captures.specs.Promises.{stop_number, stop_in, TellsSaid}
use Rattle.std.specs.Prelude.{Result, Ok, Err}

module _ (mode : Mode) (kinds bbs bytes : List ℕ) (state : Stated) (from to : ℕ) (squares by taken : List ℕ) (count stop : ℕ) (t : Told) (s : State)
    (is : s ≡ state_taken state)
    (told-so : Captures mode kinds bbs bytes s from to t) where
  promise : Captures mode kinds bbs bytes (state_taken state) from to t
  promise = subst (λ (y : State). Captures mode kinds bbs bytes y from to t) is told-so

  abbrev told : Answer (List Capture)
  told = told_of mode kinds bbs bytes (state_taken state) from to

  abbrev cs : List Capture
  cs = captures_of mode kinds bbs bytes (state_taken state) from to

  pub passed_refused : (q : Refusal) → t.checked ≡ Err q → (r : Code) → r ≡ answer_number (refusal_of {A = List Capture} q)
      → TellsSaid told squares by taken count stop r squares by taken count stop
  passed_refused q e r h =
      let p : refusal_of q ≡ told = passes_on mode kinds bbs bytes (state_taken state) from to t.checked promise.0 cs q e
      ∙ sym (told_is mode kinds bbs bytes (state_taken state) from to) in
      record {
        code = h ∙ ap answer_number p;
        made_from_holds = ap (lent_after (column 32 (λ c. c.from)) squares) p;
        made_by = ap (lent_after (column 32 (λ c. c.kind)) by) p;
        takes = ap (lent_after (column 32 (λ c. c.taken)) taken) p;
        counted = ap (lent_after length count) p;
        stops = ap (lent_after stop_in stop) p;
      }

  pub passed_told : t.checked ≡ Ok tt → (r : Code) (n point : ℕ) → r ≡ answer_number (given cs) → n ≡ t.listed.count → point ≡ stop_number (stopped t.stop) n
      → TellsSaid told squares by taken count stop r t.listed.from t.listed.kind t.listed.taken n point
  passed_told e r n point h en ep =
      let p : given cs ≡ told = tells mode kinds bbs bytes (state_taken state) from to t.checked promise.0 cs e
      ∙ sym (told_is mode kinds bbs bytes (state_taken state) from to) in
      let c : the_captures told ≡ cs = sym (ap the_captures p) in
      let holds : HoldsCaptures cs t.listed = subst (λ (l : List Capture). HoldsCaptures l t.listed) c promise.1 in
      let counts : n ≡ length cs = en ∙ holds.0 in
      record {
        code = h ∙ ap answer_number p;
        made_from_holds = holds.1 ∙ ap (lent_after (column 32 (λ k. k.from)) squares) p;
        made_by = holds.2 ∙ ap (lent_after (column 32 (λ k. k.kind)) by) p;
        takes = holds.3 ∙ ap (lent_after (column 32 (λ k. k.taken)) taken) p;
        counted = counts ∙ ap (lent_after length count) p;
        stops = ep ∙ ap₂ (λ (s : Stop) (m : ℕ). stop_number s m) (promise.2 ∙ ap the_stop c) counts ∙ ap (lent_after stop_in stop) p;
      }

-- ---- the mode's number
module _ (number : ℕ) (m : Result Mode Refusal) (names : NamesMode number m) (said : Mode → Answer (List Capture)) where
  -- no mode: everything lent stays
  pub not_said : (q : Refusal) → m ≡ Err q → (squares by taken : List ℕ) (count stop : ℕ) (r : Code) → r ≡ answer_number (refusal_of {A = List Capture} q)
      → TellsSaid (in_mode number said) squares by taken count stop r squares by taken count stop
  not_said q e squares by taken count stop r h =
      let p : refusal_of q ≡ in_mode number said = not_named number m names said q e in
      record {
        code = h ∙ ap answer_number p;
        made_from_holds = ap (lent_after (column 32 (λ c. c.from)) squares) p;
        made_by = ap (lent_after (column 32 (λ c. c.kind)) by) p;
        takes = ap (lent_after (column 32 (λ c. c.taken)) taken) p;
        counted = ap (lent_after length count) p;
        stops = ap (lent_after stop_in stop) p;
      }

  -- what is told in the mode that was named
  pub said_in : (mode : Mode) → m ≡ Ok mode → (squares by taken : List ℕ) (count stop : ℕ) (r : Code) (squares' by' taken' : List ℕ) (count' stop' : ℕ)
      → TellsSaid (said mode) squares by taken count stop r squares' by' taken' count' stop'
      → TellsSaid (in_mode number said) squares by taken count stop r squares' by' taken' count' stop'
  said_in mode e squares by taken count stop r squares' by' taken' count' stop' h =
      subst (λ (a : Answer (List Capture)). TellsSaid a squares by taken count stop r squares' by' taken' count' stop') (in_mode_holds number m names said mode e) h
