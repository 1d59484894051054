-- `score_taper::inner::times` meets its contract. Assumes nothing.
use Rattle.score_taper.proofs.Steps.{times_is}
use Rattle.score_taper.proofs.inner.times.Goals as goal

pub returns : goal.returns
returns c = times_is c.args.y c.args.n c.requires.0 c.requires.1
