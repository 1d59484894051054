-- `line_parse::side` meets its contract. Assumes nothing.
use mathlib.Core.Path.{◌≡◌, sym, ◌∙◌}
use lib.ListN.{take}
use lib.Seq.{length-take-le}
use Rattle.text_in.specs.Text.{space}
use Rattle.text_in.proofs.Parts.{before_found}
use Rattle.line_tail.specs.Words.{word_of}
use Rattle.line_parse.proofs.Words.{word_is, is_white, is_black, no_side}
use Rattle.line_parse.proofs.side.Goals as goal

pub slice_bounds-word-end : goal.slice_bounds-word-end
slice_bounds-word-end c =
    let rest = c.skip_spaces-rest.result.now in
    sym (length-take-le c.find-end.result rest (before_found space rest c.find-end.ensures))

pub returns-then-is : goal.returns-then-is
returns-then-is c =
    let word : take c.find-end.result c.skip_spaces-rest.result.now ≡ word_of c.args.s.now = word_is c.args.s.now c.skip_spaces-rest.result.now c.find-end.result c.skip_spaces-rest.ensures
    c.find-end.ensures in
    c.index.ensures ∙ is_white c.args.s.now _ (word) c.is.result c.is.ensures c.if-is.true

pub returns-then-is-2 : goal.returns-then-is-2
returns-then-is-2 c =
    let word : take c.find-end.result c.skip_spaces-rest.result.now ≡ word_of c.args.s.now = word_is c.args.s.now c.skip_spaces-rest.result.now c.find-end.result c.skip_spaces-rest.ensures
    c.find-end.ensures in
    c.index-then-is-2.ensures
    ∙ is_black c.args.s.now _ (word) c.is.result c.is.ensures c.if-is.false c.is-2.result
    c.is-2.ensures c.if-is-2.true

pub returns : goal.returns
returns c =
    let word : take c.find-end.result c.skip_spaces-rest.result.now ≡ word_of c.args.s.now = word_is c.args.s.now c.skip_spaces-rest.result.now c.find-end.result c.skip_spaces-rest.ensures
    c.find-end.ensures in
    no_side c.args.s.now _ (word) c.is.result c.is.ensures c.if-is.false c.is-2.result
    c.is-2.ensures c.if-is-2.false
