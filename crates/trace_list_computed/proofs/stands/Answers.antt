-- `trace_list_computed::stands` meets its contract. Assumes nothing.
use Rattle.bits.proofs.Machine.{asked}
use Rattle.trace_list_computed.proofs.stands.Goals as goal

pub returns : goal.returns
returns c = asked c.args.pieces c.args.square
