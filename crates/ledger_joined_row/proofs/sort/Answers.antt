-- `ledger_joined_row::sort` meets its contract. Assumes nothing.
use mathlib.Core.Path.{sym, ap, ◌∙◌}
use Prim.Native.Nat.{ℕ}
use Rattle.laws.specs.Tests.{same}
use Rattle.ledger_totals.specs.Totals.{last_row}
use Rattle.ledger_joined_row.proofs.Laws.{kind_line, kind_last}
use Rattle.ledger_joined_row.proofs.sort.Goals as goal

pub returns-then-is_line : goal.returns-then-is_line
returns-then-is_line c = let a = c.args in kind_line a.number a.loaded a.refused a.row.now
    c.row_kind-kind.result c.row_kind-kind.ensures (sym c.is_line.ensures ∙ c.if-is_line.true)

pub returns-then-is_totals : goal.returns-then-is_totals
returns-then-is_totals c = let row-kind = c.row_kind-kind in
    let a = c.args in
    kind_last a.number a.loaded a.refused a.row.now row-kind.result _ row-kind.ensures
    (sym c.is_line.ensures ∙ c.if-is_line.false)
    (ap (λ (k : ℕ). same a.row.now (last_row k a.loaded a.refused)) (sym c.one_less.ensures) ∙ sym
    c.is_totals.ensures ∙ c.if-is_totals.true)

pub returns : goal.returns
returns c = let row-kind = c.row_kind-kind in
    let a = c.args in
    kind_last a.number a.loaded a.refused a.row.now row-kind.result _ row-kind.ensures
    (sym c.is_line.ensures ∙ c.if-is_line.false)
    (ap (λ (k : ℕ). same a.row.now (last_row k a.loaded a.refused)) (sym c.one_less.ensures) ∙ sym
    c.is_totals.ensures ∙ c.if-is_totals.false)
