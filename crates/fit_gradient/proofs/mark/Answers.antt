-- `fit_gradient::mark` meets its contract. Assumes nothing.
use Rattle.fit_gradient.proofs.Marks.{passed_over, marked}
use Rattle.fit_gradient.proofs.mark.Goals as goal

pub returns-then-entry-eq0 : goal.returns-then-entry-eq0
returns-then-entry-eq0 c =
    (passed_over c.args.parts c.args.gradient.now c.args.k c.args.entry c.ranges.entry.sfits c.if-entry-eq0.true, c.requires.0)

pub returns : goal.returns
returns c = (
  marked c.args.parts c.args.gradient.now c.args.k c.args.entry c.ranges.entry.sfits c.if-entry-eq0.false
      c.of_colour-opening.ensures c.of_colour-ending.ensures c.raise.ensures.0,
  c.raise.ensures.1,
)
