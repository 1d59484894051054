-- `position_planes::above` meets its contract. Assumes nothing.
use Rattle.position_planes.proofs.Planes.{none_beyond}
use Rattle.position_planes.proofs.above.Goals as goal

pub returns-then-all-eq0 : goal.returns-then-all-eq0
returns-then-all-eq0 c =
    none_beyond c.args.board.now c.requires.0 c.args.all c.requires.1 c.if-all-eq0.true
