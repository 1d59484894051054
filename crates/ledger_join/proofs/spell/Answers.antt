-- `ledger_join::spell` meets its contract. Assumes nothing.
use Rattle.text_out.proofs.Added.{adds_or}
use Rattle.ledger_join.proofs.Kept.{spelled}
use Rattle.ledger_join.proofs.spell.Goals as goal

pub returns : goal.returns
returns c = let decimal = c.decimal in
    let args = c.args in
    let pre = c.requires in
    spelled args.text.now _ args.n c.unwrap_or.result pre (adds_or args.text.now 0 _ decimal.new.out decimal.result c.unwrap_or.result
    decimal.ensures c.unwrap_or.ensures)
