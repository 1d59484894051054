-- What each function promises, for all inputs. Definitions only.
use Rattle.std.specs.Prelude.{◌≡◌, Bool, List, ℕ}
use Rattle.exchange_order.specs.Orders.{each_once, order}

abbrev pub EachOnce : List ℕ → Bool → Type 0
EachOnce kinds r = r ≡ each_once kinds

abbrev pub GivesOrder : List ℕ → Type 0
GivesOrder r = r ≡ order
