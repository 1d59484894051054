-- `store_finish::last_rows` meets its contract: the totals alone, or after the row of a short last piece. Assumes nothing.
use mathlib.Core.Path.{subst}
use mathlib.Core.List.{List}
use Prim.Native.Nat.{ℕ, ◌+◌}
use Rattle.text_out.specs.Text.{Adds}
use Rattle.text_out.proofs.Added.{adds_or}
use Rattle.ledger_row.specs.Row.{refused_row}
use Rattle.ledger_totals.specs.Totals.{last_row}
use Rattle.store_finish.proofs.Doors.{finished_none, finished_adds}
use Rattle.store_finish.proofs.last_rows.Goals as goal

pub returns-then-state-eq0 : goal.returns-then-state-eq0
returns-then-state-eq0 c =
    let a = c.args in
    let p = c.last in
    subst (λ (x : List ℕ). Adds a.out.now 0 x p.new.out c.unwrap_or.result) (finished_none a.state c.if-state-eq0.true)
    (adds_or a.out.now 0 (last_row (a.state.loaded + a.state.refused) a.state.loaded a.state.refused) p.new.out p.result
    c.unwrap_or.result p.ensures c.unwrap_or.ensures)

pub returns : goal.returns
returns c =
    let a = c.args in
    let lines = a.state.loaded + a.state.refused + 1 in
    let k = c.refused in
    let p = c.last-2 in
    finished_adds a.state c.if-state-eq0.false a.out.now k.new.out p.new.out c.unwrap_or-next.result c.unwrap_or-2.result c.requires.0
    (adds_or a.out.now 0 (refused_row lines 18) k.new.out k.result c.unwrap_or-next.result k.ensures c.unwrap_or-next.ensures)
    (adds_or k.new.out c.unwrap_or-next.result (last_row lines a.state.loaded (a.state.refused + 1)) p.new.out p.result
    c.unwrap_or-2.result p.ensures c.unwrap_or-2.ensures)
