-- `line::field_part` meets its contract. Assumes nothing.
use mathlib.Core.Path.{ap}
use lib.ListN.{length}
use Rattle.line.proofs.Found.{empty, found}
use Rattle.line.proofs.field_part.Goals as goal

pub returns-then-length-eq0 : goal.returns-then-length-eq0
returns-then-length-eq0 c =
    record { start = empty c.args.line.now c.field_bytes-field.ensures c.if-length-eq0.true; length = ap length c.field_bytes-field.ensures }

pub returns : goal.returns
returns c =
    record {
      start = found c.args.line.now c.field_bytes-field.ensures c.if-length-eq0.false c.find-start.ensures;
      length =
          ap length c.field_bytes-field.ensures;
    }
