-- What the function promises, for all inputs. Definitions only.
use Rattle.std.specs.Prelude.{◌≡◌, Bool, ◌&&◌, List, ℕ, eqb, length}
use Rattle.position_consistent.specs.Consistent.{consistent}

abbrev pub Fits : List ℕ → List ℕ → Bool → Type 0
Fits bitboards board r = r ≡ (eqb (length bitboards) 14 && eqb (length board) 64 && consistent bitboards board)
