use mathlib.Core.Path.{◌≡◌}
use mathlib.Core.List.{List}
use Prim.Native.Nat.{ℕ}
use Rattle.position.specs.Checked.{of_side}
use Rattle.line_parse.specs.Line.{Line}
use Rattle.store_record.proofs.Records.{bytes_to}
use Rattle.store_record.proofs.inner.pack.Given as goal

abbrev pub packed : List ℕ → ℕ → ℕ → Line
packed board side half = record { state = of_side side; half = half; board = board }

abbrev pub invariant-loop-i : goal.invariant-loop-i
invariant-loop-i l = l.«record» ≡ bytes_to (packed l.board l.side l.half) l.i
