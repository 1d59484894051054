-- What each function promises, for all inputs. Definitions only.
use Rattle.std.specs.Prelude.{◌≡◌, List, ℕ, ℤ, Option}
use Rattle.exchange_value.specs.Settled.{settled}
use Rattle.exchange_value.specs.Stop.{stop_of}
use Rattle.exchange_value.specs.Answers.{stopped}

abbrev pub Settles : List ℕ → ℤ → Type 0
Settles values r = r ≡ settled values

abbrev pub Stops : List ℕ → Option ℕ → Type 0
Stops values r = stopped r ≡ stop_of values
