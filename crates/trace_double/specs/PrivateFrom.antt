-- The sum from any entry on. No promise reaches this. Definitions only.
use Rattle.std.specs.Prelude.{List, ℕ, ℤ, pos, get_or, Float}
use Rattle.trace_marks.specs.Marks.{fold_from}
use Rattle.trace_double.specs.Double.{entry_added}

-- the entry at a place, weighed
abbrev pub entry_step : List Float → Float → List ℤ → Float → ℕ → Float
entry_step squares x entries score k = entry_added squares x score k (get_or entries k (pos 0))

-- n entries from k on, in the order of their places, from a score on
abbrev pub entries_from : List Float → Float → List ℤ → Float → ℕ → ℕ → Float
entries_from squares x entries score k n = fold_from (entry_step squares x entries) score k n
