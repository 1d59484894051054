-- `store_summary::keep` meets its contract. Assumes nothing.
use borrow.Author.Rules.{rules}
use Rattle.store_summary.proofs.Keeping.{keeping}
use Rattle.store_summary.proofs.keep.Goals as goal

pub returns : goal.returns
returns c =
    let a = c.args in
    keeping a.run.now a.summary.now a.number a.bytes.now c.put.new.out c.count.new.summary c.requires (search rules)
    c.put.ensures.1 c.count.ensures
