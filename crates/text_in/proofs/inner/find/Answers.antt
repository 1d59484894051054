-- `text_in::inner::find` meets its contract. Assumes nothing.
use mathlib.Core.Path.{ap, ◌∙◌}
use lib.ListN.{length}
use Rattle.std.specs.Option.{unwrap_or}
use Rattle.text_in.proofs.Parts.{first_place}
use Rattle.text_in.proofs.inner.find.Goals as goal

pub returns : goal.returns
returns c =
    let a = c.args in
    c.unwrap_or.ensures ∙ ap (λ r. unwrap_or r (length a.s.now)) c.place.ensures ∙ first_place a.mark a.s.now
