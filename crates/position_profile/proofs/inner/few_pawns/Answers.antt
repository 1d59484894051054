-- `position_profile::inner::few_pawns` meets its contract. Assumes nothing.
use mathlib.Core.Path.{sym, ◌∙◌}
use borrow.Author.Tests.{le-leb, lt-leb}
use Rattle.position_profile.specs.Profile.{few_pawns}
use Rattle.position_profile.proofs.Rules.{not_white, then_black, few_pawns_holds}
use Rattle.position_profile.proofs.inner.few_pawns.Goals as goal

pub returns-then-number-gt-MOST_PAWNS : goal.returns-then-number-gt-MOST_PAWNS
returns-then-number-gt-MOST_PAWNS c =
    let bbs = c.args.bitboards.now in
    not_white (few_pawns bbs) (sym (few_pawns_holds bbs 0 c.number.result c.number.ensures) ∙ lt-leb c.number.result 8 c.if-number-gt-MOST_PAWNS.true)

pub returns : goal.returns
returns c =
    let bbs = c.args.bitboards.now in
    then_black (few_pawns bbs) (sym (few_pawns_holds bbs 0 c.number.result c.number.ensures) ∙ le-leb c.number.result 8 c.if-number-gt-MOST_PAWNS.false)
    _ (few_pawns_holds bbs 1 c.number-2.result c.number-2.ensures)
