use Prim.Native.Nat.{ℕ, ◌-◌}
use lib.ListN.{length}
use Rattle.store_gather.specs.Promises.{run_gather}
use Rattle.store_gather.specs.declared.GatheredSoFar.{GatheredSoFar}
use Rattle.store_gather.proofs.Pieces.{Turn}
use Rattle.store_gather.proofs.take.Given as goal

abbrev pub begun : ℕ → ℕ → ℕ → GatheredSoFar
begun held number refusal = record { held = held; number = number; refusal = refusal }

abbrev pub invariant-loop-at : goal.invariant-loop-at
invariant-loop-at l =
    Turn (run_gather (begun l.initial.held l.initial.number l.initial.refusal) l.initial.piece l.chunk l.initial.summary) l.chunk l.piece l.summary l.held l.number l.refusal l.at

abbrev pub decreases-loop-at : goal.decreases-loop-at
decreases-loop-at l = length l.chunk - l.at
