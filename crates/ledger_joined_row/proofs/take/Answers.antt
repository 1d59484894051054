-- `ledger_joined_row::take` meets its contract. Assumes nothing.
use mathlib.Core.Path.{sym, subst, ◌∙◌}
use mathlib.Core.List.{List}
use Prim.Native.Nat.{ℕ}
use native.Mathlib.Omega.{arith}
use Rattle.text_out.specs.Text.{Puts}
use Rattle.ledger_joined_row.proofs.Laws.{line_short, renumber_fits, taken_is, text_line, text_other}
use Rattle.ledger_joined_row.proofs.take.Goals as goal

pub renumber-n-requires : goal.renumber-n-requires
renumber-n-requires c = let a = c.args in (
  omega arith,
  (line_short a.number a.loaded a.refused a.row.now c.sort-kind.result
      c.sort-kind.ensures (sym c.is_line.ensures ∙ c.if-is_line.true)),
)

pub returns-then-is_line : goal.returns-then-is_line
returns-then-is_line c = let if1 = c.if-is_line in
    let is-line = c.is_line in
    let sort = c.sort-kind in
    let a = c.args in
    let p = c.put-placed in
    record {
      kind = sort.ensures;
      text = subst (λ (t : List ℕ). Puts a.out.now p.new.out a.at t p.result)
          (taken_is c.renumber-n.ensures
          (renumber_fits a.whole a.number a.row.now (line_short a.number a.loaded a.refused a.row.now sort.result
          sort.ensures (sym is-line.ensures ∙ if1.true))) ∙ text_line a.number a.loaded a.refused a.row.now sort.result
          sort.ensures a.whole (sym is-line.ensures ∙ if1.true)) p.ensures;
    }

pub returns : goal.returns
returns c = let sort = c.sort-kind in
    let a = c.args in
    let p = c.put-placed-2 in
    record {
      kind = sort.ensures;
      text = subst (λ (t : List ℕ). Puts a.out.now p.new.out a.at t p.result)
          (text_other a.number a.loaded a.refused a.row.now sort.result sort.ensures a.whole
          (sym c.is_line.ensures ∙ c.if-is_line.false))
          p.ensures;
    }
