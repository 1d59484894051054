use Rattle.exchange.proofs.Listing.{Listing, all}
use Rattle.exchange.proofs.inner.follow.Given as goal

abbrev pub invariant-loop-n : goal.invariant-loop-n
invariant-loop-n l =
    Listing l.mode l.kinds l.bitboards l.to (all l.mode l.kinds l.bitboards l.to l.from l.first l.value l.initial.there l.initial.color l.initial.last) l.squares l.by l.taken l.n l.last l.there l.color
