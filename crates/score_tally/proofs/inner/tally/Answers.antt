-- `score_tally::inner::tally` meets its contract: the four sums come out of the words of each colour. Assumes nothing.
use mathlib.Core.Path.{ap, ◌∙◌}
use native.Mathlib.Omega.{arith}
use borrow.Author.Rules.{sfits_of}
use Rattle.score_weights.specs.PrivatePacked.{opening_in, ending_in}
use Rattle.score_tally.specs.declared.inner.ColorSums.{ColorSums}
use Rattle.score_tally.proofs.Boards.{opening_sum, ending_sum, first_is, moved_sum, both_are}
use Rattle.score_tally.proofs.inner.tally.Goals as goal

pub returns : goal.returns
returns c =
    let black = c.sums-black in
    let white = c.sums-white in
    let bbs = c.args.bitboards.now in
    let o = c.occupied-occupied.result in
    c.both.ensures
    ∙ both_are bbs _ _ _ _ _ _
    (first_is c.opening.result (sfits_of c.opening.type_inv) ∙ c.opening.ensures ∙ ap (λ (x : ColorSums). opening_in x.words) white.ensures
    ∙ opening_sum bbs 0 (omega arith))
    (first_is c.ending.result (sfits_of c.ending.type_inv) ∙ c.ending.ensures ∙ ap (λ (x : ColorSums). ending_in x.words) white.ensures
    ∙ ending_sum bbs 0 (omega arith))
    (first_is c.opening-2.result (sfits_of c.opening-2.type_inv) ∙ c.opening-2.ensures
    ∙ ap (λ (x : ColorSums). opening_in x.words) black.ensures ∙ opening_sum bbs 1 (omega arith))
    (first_is c.ending-2.result (sfits_of c.ending-2.type_inv) ∙ c.ending-2.ensures ∙ ap (λ (x : ColorSums). ending_in x.words) black.ensures
    ∙ ending_sum bbs 1 (omega arith))
    (ap (λ (x : ColorSums). x.mobility) white.ensures ∙ moved_sum bbs 0 o c.occupied-occupied.ensures)
    (ap (λ (x : ColorSums). x.mobility) black.ensures ∙ moved_sum bbs 1 o c.occupied-occupied.ensures)
