-- `captures_row::words::followed` meets its contract. Assumes nothing.
use native.Mathlib.Omega.{arith}
use Rattle.text_out.proofs.Added.{adds_then, length_20}
use Rattle.captures_row.proofs.words.followed.Goals as goal

pub returns : goal.returns
returns c =
    let a = c.args in
    adds_then c.number-end.ensures c.put.ensures
    (omega (arith, length_20 a.n, c.requires))
