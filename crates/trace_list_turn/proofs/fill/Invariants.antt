use mathlib.Core.Path.{◌≡◌}
use Prim.Native.Nat.{◌≤◌}
use lib.ListN.{length}
use Rattle.trace_list.specs.Ones.{ones}
use Rattle.trace_list.specs.Form.{is_one_rule, list_bytes}
use Rattle.trace_list_turn.proofs.fill.Given as goal

abbrev pub invariant-loop-k : goal.invariant-loop-k
invariant-loop-k l = (l.n ≤ l.k) × (l.n ≡ length (ones (is_one_rule l.entries) l.k)) × (l.bytes ≡ list_bytes (ones (is_one_rule l.entries) l.k))
