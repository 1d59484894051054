-- `bits::next` meets its contract. Assumes nothing.
use Prim.Native.Nat.{◌<◌}
use borrow.Author.Tests.{ne_eqb}
use lib.Count.{count_trailing_zeros}
use Rattle.bits.proofs.Machine.{take_away}
use Rattle.bits.proofs.Scanned.{scan_lt, scan_is}
use Rattle.bits.proofs.next.Goals as goal

pub returns : goal.returns
returns c =
    let inside : count_trailing_zeros 64 c.args.b < 64 = scan_lt c.args.b c.ranges.b.fits c.if-b-eq0.false in
    simp (
      ne_eqb c.args.b 0 c.if-b-eq0.false,
      ← scan_is c.args.b,
      take_away c.args.b (count_trailing_zeros 64 c.args.b) c.ranges.b.fits (inside),
    )
