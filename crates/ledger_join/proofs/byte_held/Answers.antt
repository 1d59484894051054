-- `ledger_join::byte_held` meets its contract. Assumes nothing.
use Rattle.ledger_join.proofs.Bytes.{ready_more, held_fits}
use Rattle.ledger_join.proofs.byte_held.Goals as goal

pub close_row-requires : goal.close_row-requires
close_row-requires c = let a = c.args in let p =
    c.requires in (
      ready_more a.s c.hold_more-next.result a.out.now a.at
          a.byte c.hold_more-next.ensures c.if-byte-eq10.true p.0,
      held_fits a.s c.hold_more-next.result a.row.now a.byte c.hold_more-next.ensures p.1 p.2,
    )
