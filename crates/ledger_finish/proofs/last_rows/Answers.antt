-- `ledger_finish::last_rows` meets its contract: the totals alone, or after the row of the last line. Assumes nothing.
use mathlib.Core.Path.{sym, subst, ◌∙◌}
use mathlib.Core.Bool.{true, false}
use mathlib.Core.List.{List}
use Prim.Native.Nat.{ℕ, ◌+◌}
use Rattle.text_out.specs.Text.{Adds}
use Rattle.text_out.proofs.Added.{adds_or}
use Rattle.ledger_totals.specs.Totals.{last_row}
use Rattle.line_profile.specs.Under.{said_under}
use Rattle.ledger_close.proofs.Closed.{closed_adds}
use Rattle.ledger_finish.proofs.Doors.{finished_none, finished_adds}
use Rattle.ledger_finish.proofs.last_rows.Goals as goal

pub returns-then-state-eq0 : goal.returns-then-state-eq0
returns-then-state-eq0 c =
    let a = c.args in
    let p = c.last in
    subst (λ (t : List ℕ). Adds a.out.now 0 t p.new.out c.unwrap_or.result)
    (finished_none a.profile a.state a.line.now c.if-state-eq0.true)
    (adds_or a.out.now 0 (last_row (a.state.loaded + a.state.refused) a.state.loaded a.state.refused) p.new.out p.result
    c.unwrap_or.result p.ensures c.unwrap_or.ensures)

pub returns-then-is_loaded : goal.returns-then-is_loaded
returns-then-is_loaded c =
    let a = c.args in
    let lines = a.state.loaded + a.state.refused + 1 in
    let k = c.close-row in
    let first = c.unwrap_or-next in
    let p = c.last-then-is_loaded in
    finished_adds a.profile a.state a.line.now
    c.if-state-eq0.false true
    (sym c.if-is_loaded.true ∙ k.ensures.loaded)
    a.out.now k.new.out p.new.out first.result c.unwrap_or-then-is_loaded.result
    c.requires.0
    (closed_adds lines a.out.now k.new.out 0 (said_under a.profile a.line.now a.state.held) k.result k.ensures
    first.result first.ensures)
    (adds_or k.new.out first.result (last_row lines (a.state.loaded + 1) a.state.refused) p.new.out p.result
    c.unwrap_or-then-is_loaded.result p.ensures c.unwrap_or-then-is_loaded.ensures)

pub returns : goal.returns
returns c =
    let a = c.args in
    let lines = a.state.loaded + a.state.refused + 1 in
    let k = c.close-row in
    let first = c.unwrap_or-next in
    let p = c.last-2 in
    finished_adds a.profile a.state a.line.now
    c.if-state-eq0.false false
    (sym c.if-is_loaded.false ∙ k.ensures.loaded)
    a.out.now k.new.out p.new.out first.result c.unwrap_or-2.result
    c.requires.0
    (closed_adds lines a.out.now k.new.out 0 (said_under a.profile a.line.now a.state.held) k.result k.ensures
    first.result first.ensures)
    (adds_or k.new.out first.result (last_row lines a.state.loaded (a.state.refused + 1)) p.new.out p.result
    c.unwrap_or-2.result p.ensures c.unwrap_or-2.ensures)
