-- The captures before the stopping point, or all of them when played out, take values that add up with alternating signs to what the exchange is
-- worth: in either mode and
-- for every order, over the definitions, and of what the two doors answer. Assumes nothing.
use mathlib.Core.Path.{◌≡◌, sym, ap, ap₂, subst, ◌∙◌}
use mathlib.Core.List.{List}
use Prim.Native.Nat.{ℕ, ◌≤◌}
use lib.IntN.{ℤ}
use lib.ListN.{length, take}
use Rattle.refusal.proofs.Answers.{same_given}
use Rattle.position.specs.declared.State.{State}
use Rattle.exchange_start.specs.declared.Mode.{Mode}
use Rattle.exchange_start.proofs.Begun.{answered_knows, all_answered, a_side, from_on}
use Rattle.exchange_value.specs.Settled.{settled}
use Rattle.exchange_value.specs.Stop.{Stop, carried_out, alternating}
use Rattle.exchange_value.specs.Answers.{stopped}
use Rattle.exchange_value.proofs.Stopping.{adds_up, stop_means, out_means}
use Rattle.exchange.specs.Exchange.{Capture, values_taken, captures_of, exchange_of}
use Rattle.exchange.specs.Promises.{See, HoldsCaptures}
use Rattle.exchange.specs.declared.inner.Listed.{Listed}
use Rattle.exchange.proofs.Columns.{column_taken}
use Rattle.exchange.proofs.Settling.{at_most_32}
use Rattle.exchange.proofs.Room.{captures_are, exchange_is, all_listed}
use Rattle.exchange_told.specs.Told.{told_of, the_captures, the_stop}
use Rattle.exchange_told.specs.Promises.{Captures}
use Rattle.exchange_told.specs.Why.{Why}
use Rattle.exchange_told.specs.declared.Told.{Told}
use Rattle.exchange_told.proofs.Behind.{told_is}
use Rattle.std.specs.Prelude.{Ok}

module _ (mode : Mode) (kinds bbs bytes : List ℕ) (state : State) (from to : ℕ) where
  abbrev cs : List Capture
  cs = captures_of mode kinds bbs bytes state from to

  worth_is : exchange_of mode kinds bbs bytes state from to ≡ settled (values_taken cs)
  worth_is = exchange_is mode kinds bbs bytes state from to ∙ ap (λ (l : List Capture). settled (values_taken l))
      (sym (captures_are mode kinds bbs bytes state from to))

  sum_is : alternating (carried_out (the_stop cs) (values_taken cs)) ≡ exchange_of mode kinds bbs bytes state from to
  sum_is = adds_up (values_taken cs) ∙ sym worth_is

  used : (l : Listed) → HoldsCaptures cs l → length cs ≤ 32 → take l.count l.taken ≡ values_taken cs
  used l h n = ap₂ (λ (m : ℕ) (vs : List ℕ). take m vs) h.0 h.3 ∙ column_taken (λ c. c.taken) 32 cs n

  doors : (r : Told) (z : ℤ) → Captures mode kinds bbs bytes state from to r → See mode kinds bbs bytes state from to (Ok z)
      → alternating (carried_out (stopped r.stop) (take r.listed.count r.listed.taken)) ≡ z
  doors r z p q =
      let worth : ℤ = exchange_of mode kinds bbs bytes state from to in
      let b = answered_knows mode kinds bbs bytes state from to worth z q in
      let few : length cs ≤ 32 =
      subst (λ (l : List Capture). length l ≤ 32) (all_listed mode kinds bbs bytes state from to (from_on b) (a_side b) b.may b.few)
      (at_most_32 mode kinds bbs bytes state from to) in
      let is : z ≡ worth = same_given (q ∙ sym (all_answered mode kinds bbs bytes state from to worth b)) in
      let e : the_captures (told_of mode kinds bbs bytes state from to) ≡ cs =
      ap the_captures (told_is mode kinds bbs bytes state from to ∙ sym (all_answered mode kinds bbs bytes state from to cs b)) in
      let h : HoldsCaptures cs r.listed = subst (λ (l : List Capture). HoldsCaptures l r.listed) e p.1 in
      ap₂ (λ (t : Stop) (vs : List ℕ). alternating (carried_out t vs)) (p.2 ∙ ap the_stop e) (used r.listed h few) ∙ sum_is ∙ sym is

  pub why : Why mode kinds bbs bytes state from to
  why = record { stops = stop_means (values_taken cs); goes_on = out_means (values_taken cs); adds_up = sum_is; of_the_doors = doors }
