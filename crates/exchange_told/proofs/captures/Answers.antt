-- `exchange_told::captures` meets its contract. Assumes nothing.
use mathlib.Core.Path.{sym, ap, subst, ◌∙◌}
use mathlib.Core.List.{List}
use Rattle.exchange_value.specs.Stop.{stop_of}
use Rattle.exchange.specs.Exchange.{Capture}
use Rattle.exchange.specs.Promises.{HoldsCaptures}
use Rattle.exchange.proofs.Settling.{within}
use Rattle.exchange_told.specs.Told.{the_stop}
use Rattle.exchange_told.proofs.Behind.{told_fit, told_refused, values_are, stop_of_none}
use Rattle.exchange_told.proofs.captures.Goals as goal
use Rattle.refusal.specs.Answer.{answered}

pub returns-in-Err : goal.returns-in-Err
returns-in-Err c =
    let a = c.args in
    let e =
    sym (told_refused a.mode a.order.now a.bitboards.now a.board.now a.state a.from a.to c.begins.result
    c.begins.ensures c.in-Err.refusal c.in-Err.is) in (
      sym (ap answered c.in-Err.is) ∙ c.begins.ensures,
      subst (λ (cs : List Capture). HoldsCaptures cs c.none.result) e c.none.ensures,
      stop_of_none ∙ ap the_stop e,
    )

pub slice_bounds-stop-end : goal.slice_bounds-stop-end
slice_bounds-stop-end c =
    let a = c.args in
    within a.mode a.order.now a.bitboards.now a.board.now a.state a.from a.to c.list-listed.result.count c.list-listed.result.taken
    c.list-listed.ensures.0 c.list-listed.ensures.3

pub returns : goal.returns
returns c =
    let a = c.args in
    let e = sym (told_fit a.mode a.order.now a.bitboards.now a.board.now a.state a.from a.to c.begins.result
    c.begins.ensures c.in_default.is) in (
      sym (ap answered c.in_default.is) ∙ c.begins.ensures,
      subst (λ (cs : List Capture). HoldsCaptures cs c.list-listed.result) e c.list-listed.ensures,
      c.stop.ensures
          ∙ ap stop_of (values_are a.mode a.order.now a.bitboards.now a.board.now a.state a.from a.to c.list-listed.result.count
          c.list-listed.result.taken
          c.list-listed.ensures.0 c.list-listed.ensures.3) ∙ ap the_stop e,
    )
