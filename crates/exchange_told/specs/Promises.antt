-- What the function promises, for all inputs. Definitions only.
use Rattle.std.specs.Prelude.{◌≡◌, List, ℕ}
use Rattle.position.specs.declared.State.{State}
use Rattle.exchange_start.specs.Promises.{BeginsExchange}
use Rattle.exchange_start.specs.declared.Mode.{Mode}
use Rattle.exchange_value.specs.Answers.{stopped}
use Rattle.exchange.specs.Promises.{HoldsCaptures}
use Rattle.exchange_told.specs.Told.{told_of, the_captures, the_stop}
use Rattle.exchange_told.specs.declared.Told.{Told}

-- refused as the exchange is; all the captures in order; the point where it stops
abbrev pub Captures : Mode → List ℕ → List ℕ → List ℕ → State → ℕ → ℕ → Told → Type 0
Captures mode kinds bitboards board state from to r =
    BeginsExchange mode kinds bitboards board state from to r.checked
    × HoldsCaptures (the_captures (told_of mode kinds bitboards board state from to)) r.listed
    × (stopped r.stop ≡ the_stop (the_captures (told_of mode kinds bitboards board state from to)))
