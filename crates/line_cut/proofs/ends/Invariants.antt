use mathlib.Core.Path.{◌≡◌}
use Prim.Native.Nat.{◌≤◌, ◌+◌}
use lib.ListN.{drop}
use Rattle.line_cut.specs.Lines.{ends}
use Rattle.line_cut.proofs.ends.Given as goal

abbrev pub invariant-loop-byte : goal.invariant-loop-byte
invariant-loop-byte l = (l.n ≤ l.byte-index) × (l.n + ends (drop l.byte-index l.chunk) ≡ ends l.chunk)
