-- `bits::scan` meets its contract. Assumes nothing.
use Rattle.bits.proofs.Scanned.{scan_is}
use Rattle.bits.proofs.scan.Goals as goal

pub returns : goal.returns
returns c = scan_is c.args.b
