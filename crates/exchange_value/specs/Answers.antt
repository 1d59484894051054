-- The code's answer on the paper. Definitions only.
use Rattle.exchange_value.specs.Stop as P
use Rattle.std.specs.Prelude.{Option, None, Some}
use Prim.Native.Nat.{ℕ}

abbrev pub stopped : Option ℕ → P.Stop
stopped None = P.played_out
stopped (Some i) = P.before i
