-- The captures that are listed are those that are told, and beside a refusal there are none. Assumes nothing.
use mathlib.Core.Path.{◌≡◌, refl, sym, ap, ap₂, ◌∙◌}
use mathlib.Core.List.{List, []}
use Prim.Native.Nat.{ℕ, ◌-◌}
use native.Mathlib.Nat.{sub-zero}
use lib.ListN.{length, take}
use Rattle.refusal.specs.declared.Refusal.{Refusal}
use Rattle.position.specs.declared.State.{State}
use Rattle.exchange_start.specs.Answers.{behind}
use Rattle.exchange_start.specs.Promises.{BeginsExchange}
use Rattle.exchange_start.specs.declared.Mode.{Mode}
use Rattle.exchange_start.proofs.Begun.{knows, tells, passes_on, a_side, from_on}
use Rattle.exchange_value.specs.Stop.{played_out, stop_of}
use Rattle.exchange.specs.Exchange.{values_taken, captures_of}
use Rattle.exchange.specs.Listed.{captures_with, column}
use Rattle.exchange.proofs.Columns.{column_taken}
use Rattle.exchange.proofs.Settling.{at_most_32}
use Rattle.exchange.proofs.Room.{all_listed}
use Rattle.exchange_told.specs.Told.{told_of, the_captures}
use Rattle.std.specs.Prelude.{Result, Ok, Err}

pub told_is : (mode : Mode) (kinds bbs bytes : List ℕ) (state : State) (from to : ℕ)
    → told_of mode kinds bbs bytes state from to ≡ behind mode kinds bbs bytes state from to (captures_of mode kinds bbs bytes state from to)
unfolding told_of
told_is mode kinds bbs bytes state from to = refl

-- ---- after the test of a capture
module _ (mode : Mode) (kinds bbs bytes : List ℕ) (state : State) (from to : ℕ) (r : Result Unit Refusal)
    (promise : BeginsExchange mode kinds bbs bytes state from to r) where
  pub told_fit : r ≡ Ok tt → the_captures (told_of mode kinds bbs bytes state from to) ≡ captures_with mode kinds bbs bytes state from to
  told_fit e =
      let k = knows mode kinds bbs bytes state from to r promise e in
      ap the_captures (told_is mode kinds bbs bytes state from to ∙ sym
      (tells mode kinds bbs bytes state from to r promise (captures_of mode kinds bbs bytes state from to) e))
      ∙ sym (all_listed mode kinds bbs bytes state from to (from_on k) (a_side k) k.may k.few)

  pub told_refused : (q : Refusal) → r ≡ Err q → the_captures (told_of mode kinds bbs bytes state from to) ≡ []
  told_refused q e =
      ap the_captures (told_is mode kinds bbs bytes state from to ∙ sym
      (passes_on mode kinds bbs bytes state from to r promise (captures_of mode kinds bbs bytes state from to) q e))

-- ---- the arrays' part that is used
module _ (mode : Mode) (kinds bbs bytes : List ℕ) (state : State) (from to n : ℕ) (array : List ℕ)
    (en : n ≡ length (captures_with mode kinds bbs bytes state from to))
    (ea : array ≡ column 32 (λ c. c.taken) (captures_with mode kinds bbs bytes state from to)) where
  pub values_are : take (n - 0) array ≡ values_taken (captures_with mode kinds bbs bytes state from to)
  values_are =
      ap₂ (λ (m : ℕ) (l : List ℕ). take m l) (sub-zero n ∙ en) ea
      ∙ column_taken (λ c. c.taken) 32 (captures_with mode kinds bbs bytes state from to) (at_most_32 mode kinds bbs bytes state from to)

pub stop_of_none : played_out ≡ stop_of []
unfolding stop_of
stop_of_none = refl
