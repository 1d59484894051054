-- `trace_list_double::sign` meets its contract. Assumes nothing.
use Rattle.trace_list_double.proofs.Colours.{sign_is}
use Rattle.trace_list_double.proofs.sign.Goals as goal

pub returns : goal.returns
returns c = sign_is c.args.color c.requires
