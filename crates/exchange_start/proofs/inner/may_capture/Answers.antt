-- `exchange_start::inner::may_capture` meets its contract. Assumes nothing.
use mathlib.Core.Path.{◌≡◌, sym, ◌∙◌}
use mathlib.Core.Bool.{true}
use borrow.Author.Tests.{not-true, not-false}
use Rattle.position_boards.specs.Sound.{on}
use Rattle.exchange_start.proofs.Tested.{no_own, none_to_take, attack_only}
use Rattle.exchange_start.proofs.inner.may_capture.Goals as goal

pub returns-then-not-stands : goal.returns-then-not-stands
returns-then-not-stands c =
    let a = c.args in
    no_own a.mode a.bitboards.now a.board.now a.state a.from a.to (sym c.stands.ensures ∙ not-true c.stands.result c.if-not-stands.true-raw)

pub returns-then-not-may_take : goal.returns-then-not-may_take
returns-then-not-may_take c =
    let own : on c.args.bitboards.now c.args.state.side c.args.from ≡ true = sym c.stands.ensures ∙ not-false c.stands.result c.if-not-stands.false-raw in
    let a = c.args in
    none_to_take a.mode a.bitboards.now a.board.now a.state a.from a.to (own)
    (sym c.may_take.ensures ∙ not-true c.may_take.result c.if-not-may_take.true-raw)

pub returns : goal.returns
returns c =
    let own : on c.args.bitboards.now c.args.state.side c.args.from ≡ true = sym c.stands.ensures ∙ not-false c.stands.result c.if-not-stands.false-raw in
    let a = c.args in
    attack_only a.mode a.bitboards.now a.board.now a.state a.from a.to
    c.kind_on.result c.occupied.result c.attacks_from-targets.result c.holds.result
    c.holds.ensures c.attacks_from-targets.ensures c.kind_on.ensures c.occupied.ensures
    (own) (sym c.may_take.ensures ∙ not-false c.may_take.result c.if-not-may_take.false-raw)
