-- `sift_feed::take`: what was made and told is that of the chunk's first bytes. Assumes nothing.
use Prim.Native.Nat.{◌-◌}
use lib.ListN.{length}
use Rattle.sift_form.specs.Forms.{made_of}
use Rattle.sift_feed.specs.Sifting.{sift_run}
use Rattle.sift_feed.proofs.Turn.{Turn}
use Rattle.sift_feed.proofs.take.Given as goal

abbrev pub invariant-loop-at : goal.invariant-loop-at
invariant-loop-at l =
    Turn l.form (sift_run (made_of l.form) l.fn.state l.fn.line l.chunk) l.chunk l.fn.made l.fn.rows l.line l.made l.rows l.begun l.loaded l.refused
    l.made_end l.rows_end l.at

abbrev pub decreases-loop-at : goal.decreases-loop-at
decreases-loop-at l = length l.chunk - l.at
