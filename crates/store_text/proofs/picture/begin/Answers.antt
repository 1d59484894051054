-- `store_text::picture::begin` meets its contract. Assumes nothing.
use Rattle.std.proofs.Common.{arith}
use Rattle.text_out.proofs.Added.{adds_4}
use Rattle.store_text.specs.Picture.{picture_begin}
use Rattle.store_text.proofs.picture.begin.Goals as goal

pub returns : goal.returns
unfolding picture_begin
returns c =
    adds_4 c.put-a.ensures c.put-b.ensures
    c.put-c.ensures c.put.ensures
    (omega (
      arith,
      c.requires,
    ))
