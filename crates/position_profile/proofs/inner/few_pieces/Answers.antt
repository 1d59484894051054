-- `position_profile::inner::few_pieces` meets its contract. Assumes nothing.
use mathlib.Core.Path.{sym, ◌∙◌}
use borrow.Author.Tests.{le-leb, lt-leb}
use Rattle.position_profile.specs.Profile.{few_pieces}
use Rattle.position_profile.proofs.Rules.{not_white, then_black, few_pieces_holds}
use Rattle.position_profile.proofs.inner.few_pieces.Goals as goal

pub returns-then-count-gt-MOST_PIECES : goal.returns-then-count-gt-MOST_PIECES
returns-then-count-gt-MOST_PIECES c =
    let bbs = c.args.bitboards.now in
    not_white (few_pieces bbs) (sym (few_pieces_holds bbs 0 c.count.result c.at.result c.count.ensures c.at.ensures)
    ∙ lt-leb c.count.result 16 c.if-count-gt-MOST_PIECES.true)

pub returns : goal.returns
returns c =
    let bbs = c.args.bitboards.now in
    then_black (few_pieces bbs) (sym (few_pieces_holds bbs 0 c.count.result c.at.result c.count.ensures c.at.ensures)
    ∙ le-leb c.count.result 16 c.if-count-gt-MOST_PIECES.false)
    _ (few_pieces_holds bbs 1 c.count-2.result c.at-2.result c.count-2.ensures c.at-2.ensures)
