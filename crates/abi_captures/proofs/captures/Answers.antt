-- `abi_captures::captures` meets its contract. Assumes nothing.
use mathlib.Core.Path.{refl}
use Rattle.abi_captures.proofs.Passed.{passed_refused, passed_told}
use Rattle.abi_captures.proofs.captures.Goals as goal

pub returns-in-Err : goal.returns-in-Err
returns-in-Err c =
    let a = c.args in
    passed_refused a.mode a.order.now a.bitboards.now a.board.now a.state a.from a.to _ _ _ _ _ c.captures-told.result
    c.taken.result c.taken.ensures c.captures-told.ensures c.in-Err.refusal c.in-Err.is c.refused.result
    c.refused.ensures

pub returns : goal.returns
returns c =
    let a = c.args in
    passed_told a.mode a.order.now a.bitboards.now a.board.now a.state a.from a.to _ _ _ _ _ c.captures-told.result
    c.taken.result c.taken.ensures c.captures-told.ensures c.in_default.is _
    c.captures-told.result.listed.count c.stop_number.result refl refl c.stop_number.ensures
