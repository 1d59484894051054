-- `trace::flag` meets its contract. Assumes nothing.
use Rattle.trace.proofs.Counted.{no_pair, a_pair}
use Rattle.trace.proofs.flag.Goals as goal

pub returns-then-number-lt2 : goal.returns-then-number-lt2
returns-then-number-lt2 c =
    let n = c.number in
    let a = c.args in
    no_pair a.bitboards.now a.color n.result n.ensures c.if-number-lt2.true

pub returns : goal.returns
returns c =
    let n = c.number in
    let a = c.args in
    a_pair a.bitboards.now a.color n.result n.ensures c.if-number-lt2.false
