-- `position_profile::inner::one_king` meets its contract. Assumes nothing.
use mathlib.Core.Path.{sym, ◌∙◌}
use borrow.Author.Tests.{eq-eqb, ne_eqb}
use Rattle.position_profile.specs.Profile.{one_king}
use Rattle.position_profile.proofs.Rules.{not_white, then_black, one_king_holds}
use Rattle.position_profile.proofs.inner.one_king.Goals as goal

pub returns-then-number-ne1 : goal.returns-then-number-ne1
returns-then-number-ne1 c =
    let bbs = c.args.bitboards.now in
    not_white (one_king bbs) (sym (one_king_holds bbs 0 c.number.result c.number.ensures) ∙ ne_eqb c.number.result 1 c.if-number-ne1.true)

pub returns : goal.returns
returns c =
    let bbs = c.args.bitboards.now in
    then_black (one_king bbs) (sym (one_king_holds bbs 0 c.number.result c.number.ensures) ∙ eq-eqb c.number.result 1 c.if-number-ne1.false)
    _ (one_king_holds bbs 1 c.number-2.result c.number-2.ensures)
