-- WHY AN EXCHANGE IS WORTH WHAT IT IS (document 02, W-207): the claim, of either mode, and of every order, position and capture. Definitions only.
use Rattle.std.specs.Prelude.{◌≡◌, List, ℕ, ℤ, take, Ok}
use Rattle.position.specs.declared.State.{State}
use Rattle.exchange_start.specs.declared.Mode.{Mode}
use Rattle.exchange_value.specs.Stop.{played_out, before, carried_out, alternating, StopsBefore, NoneStops}
use Rattle.exchange_value.specs.Answers.{stopped}
use Rattle.exchange.specs.Exchange.{Capture, values_taken, captures_of, exchange_of}
use Rattle.exchange.specs.Promises.{See}
use Rattle.exchange_told.specs.Told.{the_stop}
use Rattle.exchange_told.specs.Promises.{Captures}
use Rattle.exchange_told.specs.declared.Told.{Told}

module _ (mode : Mode) (kinds bbs bytes : List ℕ) (state : State) (from to : ℕ) where
  abbrev cs : List Capture
  cs = captures_of mode kinds bbs bytes state from to

  pub record Why : Type 0 where
    -- "That point must be .."
    pub stops : (i : ℕ) → the_stop cs ≡ before i → StopsBefore i (values_taken cs)
    pub goes_on : the_stop cs ≡ played_out → NoneStops (values_taken cs)
    -- "the values taken by the captures before that point, or by all of them when played out, add up with alternating signs to the exchange value"
    pub adds_up : alternating (carried_out (the_stop cs) (values_taken cs)) ≡ exchange_of mode kinds bbs bytes state from to
    -- and so of what the two doors answer: where `see` gives z, the values that `captures` lists before the point that it tells add up to z
    pub of_the_doors : (r : Told) (z : ℤ) → Captures mode kinds bbs bytes state from to r → See mode kinds bbs bytes state from to (Ok z)
        → alternating (carried_out (stopped r.stop) (take r.listed.count r.listed.taken)) ≡ z
