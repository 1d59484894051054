-- `trace_list_turn::clear_entries` meets its contract. Assumes nothing.
use mathlib.Core.Path.{refl}
use native.Mathlib.Omega.{arith}
use Rattle.trace_list_turn.proofs.Ways.{flat_none}
use Rattle.trace_list_turn.proofs.clear_entries.Goals as goal

pub returns : goal.returns
returns c = flat_none c.fill.new.self (omega arith) (λ k h. c.fill.ensures.clones k _ (omega arith) refl)
