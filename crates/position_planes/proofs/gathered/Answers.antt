-- `position_planes::gathered` meets its contract. Assumes nothing.
use Rattle.position_planes.proofs.Planes.{gather}
use Rattle.position_planes.proofs.gathered.Goals as goal

pub returns : goal.returns
returns c = gather c.args.word c.args.digit
