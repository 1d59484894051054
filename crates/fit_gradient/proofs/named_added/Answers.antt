-- `fit_gradient::named_added` meets its contract. Assumes nothing.
use mathlib.Core.Path.{refl}
use Rattle.fit_gradient.specs.Gradient.{first_raised}
use Rattle.fit_gradient.proofs.Marks.{one_more}
use Rattle.fit_gradient.proofs.named_added.Goals as goal

pub loop-i-init : goal.loop-i-init
unfolding first_raised
loop-i-init c = refl

pub loop-i-preserved : goal.loop-i-preserved
loop-i-preserved c =
    let l = c.loop-i in
    one_more c.args.parts.now c.args.gradient.now l.gradient l.i l.invariant
