-- `ledger_join::count_on` meets its contract. Assumes nothing.
use mathlib.Core.Path.{sym, ◌∙◌}
use Rattle.ledger_join.proofs.Kept.{counted}
use Rattle.ledger_join.proofs.count_on.Goals as goal

pub returns-then-is_next : goal.returns-then-is_next
returns-then-is_next c = let args = c.args in
    let pre = c.requires in
    counted args.text.now args.k args.from args.to pre (sym c.is_next.ensures ∙ c.if-is_next.true)
