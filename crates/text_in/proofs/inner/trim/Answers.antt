-- `text_in::inner::trim` meets its contract. Assumes nothing.
use mathlib.Core.Path.{◌∙◌, ap}
use Rattle.text_in.specs.Text.{is_blank, without_last, trim}
use Rattle.text_in.proofs.inner.trim.Goals as goal

pub returns : goal.returns
unfolding trim
returns c = c.drop_blanks.ensures ∙ ap (without_last is_blank) c.skip_blanks.ensures
