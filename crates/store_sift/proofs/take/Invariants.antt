use Prim.Native.Nat.{◌-◌}
use lib.ListN.{length}
use Rattle.sift_form.specs.Forms.{made_of}
use Rattle.store_sift.specs.Promises.{sift_store}
use Rattle.store_sift.proofs.Turn.{Turn}
use Rattle.store_sift.proofs.take.Given as goal

abbrev pub invariant-loop-at : goal.invariant-loop-at
invariant-loop-at l =
    Turn l.form (sift_store (made_of l.form) l.fn.state l.fn.piece l.chunk) l.chunk l.fn.made l.fn.rows l.piece l.made l.rows l.held l.loaded l.refused l.made_end l.rows_end l.at

abbrev pub decreases-loop-at : goal.decreases-loop-at
decreases-loop-at l = length l.chunk - l.at
