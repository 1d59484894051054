-- `text_in::inner::drop_blanks` meets its contract. Assumes nothing.
use mathlib.Core.Path.{sym, ◌∙◌}
use borrow.Author.Rules.{rules}
use borrow.Author.Tests.{not-true, not-false}
use Rattle.text_in.specs.Text.{is_blank}
use Rattle.text_in.proofs.Texts.{last_more, last_stop, last_none}
use Rattle.text_in.proofs.inner.drop_blanks.Goals as goal

pub returns-then-not-blank : goal.returns-then-not-blank
returns-then-not-blank c =
    let l = c.loop-t in
    last_stop is_blank l.t.now (search rules) (sym c.blank.ensures ∙ not-true _ c.if-not-blank.true-raw) ∙ sym l.invariant

pub loop-t-preserved : goal.loop-t-preserved
loop-t-preserved c =
    let l = c.loop-t in
    l.invariant ∙ last_more is_blank l.t.now (search rules) (sym c.blank.ensures ∙ not-false _ c.if-not-blank.false-raw)

pub returns : goal.returns
returns c =
    let l = c.loop-t in
    last_none is_blank l.t.now (search rules) ∙ sym l.invariant
