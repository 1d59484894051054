-- `store_text::words::spaced` meets its contract. Assumes nothing.
use Rattle.std.proofs.Common.{arith}
use Rattle.text_out.proofs.Added.{adds_then, length_20}
use Rattle.store_text.proofs.words.spaced.Goals as goal

pub returns : goal.returns
returns c =
    let a = c.args in
    adds_then c.number-end.ensures c.put.ensures
    (omega (arith, length_20 a.n, c.requires))
