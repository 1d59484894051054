-- `trace_list_computed::clear` meets its contract. Assumes nothing.
use mathlib.Core.Path.{refl}
use Rattle.laws.specs.Tables.{tabulate}
use Rattle.trace_list.specs.Form.{list_bytes}
use Rattle.trace_list_computed.proofs.clear.Goals as goal

pub returns : goal.returns
unfolding list_bytes tabulate
returns c = refl
