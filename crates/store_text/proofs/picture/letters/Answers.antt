-- `store_text::picture::letters` meets its contract. Assumes nothing.
use Rattle.std.proofs.Common.{arith}
use Rattle.text_out.proofs.Added.{adds_then}
use Rattle.store_text.specs.Picture.{letters_drawn}
use Rattle.store_text.proofs.picture.letters.Goals as goal

pub returns : goal.returns
unfolding letters_drawn
returns c =
    adds_then c.put-next.ensures c.put.ensures
    (omega (arith, c.requires))
