-- `store_text::words::named` meets its contract. Assumes nothing.
use Rattle.std.proofs.Common.{arith}
use Rattle.text_out.proofs.Added.{adds_then, length_20}
use Rattle.store_text.proofs.words.named.Goals as goal

pub returns : goal.returns
returns c =
    let a = c.args in
    adds_then c.put-end.ensures c.number.ensures
    (omega (arith, length_20 a.n, c.requires))
