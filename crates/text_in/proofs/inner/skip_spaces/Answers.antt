-- `text_in::inner::skip_spaces` meets its contract. Assumes nothing.
use mathlib.Core.Path.{sym, ◌∙◌}
use borrow.Author.Rules.{rules}
use borrow.Author.Tests.{eq-eqb, ne_eqb}
use Rattle.text_in.specs.Text.{is_space}
use Rattle.text_in.proofs.Texts.{without_more, without_stop, without_none}
use Rattle.text_in.proofs.inner.skip_spaces.Goals as goal

pub returns-then-t-ne32 : goal.returns-then-t-ne32
returns-then-t-ne32 c =
    let l = c.loop-t in
    without_stop is_space l.t.now (search rules) (ne_eqb _ _ c.if-t-ne32.true) ∙ sym l.invariant

pub loop-t-preserved : goal.loop-t-preserved
loop-t-preserved c =
    let l = c.loop-t in
    l.invariant ∙ without_more is_space l.t.now (search rules) (eq-eqb _ _ c.if-t-ne32.false)

pub returns : goal.returns
returns c =
    let l = c.loop-t in
    without_none is_space l.t.now (search rules) ∙ sym l.invariant
