-- `fit_coefficient::points` meets its contract. Assumes nothing.
use Rattle.std.proofs.Common.{to_z-of_z, w16}
use Rattle.laws.proofs.Nans.{is_no_nan}
use Rattle.fit_coefficient.proofs.Scores.{at_nan, counted}
use borrow.Author.Rules.{sfits_of}
use Rattle.fit_coefficient.proofs.points.Goals as goal

pub returns-then-score : goal.returns-then-score
returns-then-score c = at_nan c.args.score c.if-score.true

pub rounded_down-requires : goal.rounded_down-requires
rounded_down-requires c = is_no_nan c.args.score c.if-score.false

pub returns : goal.returns
returns c =
    let r = c.rounded_down in
    counted c.expected.result r.result _ c.args.score c.expected.ensures
    (to_z-of_z {w = w16} (sfits_of r.type_inv)) r.ensures
