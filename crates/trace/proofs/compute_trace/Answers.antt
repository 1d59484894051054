-- `trace::compute_trace` meets its contract. Assumes nothing.
use mathlib.Core.Path.{◌≡◌}
use native.Mathlib.Omega.{arith}
use lib.ListN.{length}
use Rattle.refusal.specs.Answer.{given}
use Rattle.position.proofs.Doors.{bytes_64, pass_on, fit_rest, fit_all}
use Rattle.trace.specs.Trace.{trace_of}
use Rattle.trace.proofs.Doors.{passed_on, traced}
use Rattle.trace.proofs.compute_trace.Goals as goal

pub returns-in-Err : goal.returns-in-Err
returns-in-Err c =
    let q = c.in-Err.refusal in
    let a = c.args in
    let e : length a.entries.now ≡ 768 = omega (arith, c.if-entries-ne-COUNT.false) in
    passed_on a.bitboards.now a.board.now a.state a.entries.now c.refused-in-Err.result q e
    (pass_on a.bitboards.now a.board.now a.state c.check.result c.check.ensures
    (given (trace_of a.bitboards.now a.state.side)) q c.in-Err.is)
    c.refused-in-Err.ensures

pub mark-requires : goal.mark-requires
mark-requires c =
    let a = c.args in
    let f = fit_all a.bitboards.now a.board.now a.state c.check.result c.check.ensures c.in_default.is in
    (bytes_64 a.bitboards.now a.board.now a.state f.shape, c.clear.ensures.0)

pub returns : goal.returns
returns c =
    let a = c.args in
    let e : length a.entries.now ≡ 768 = omega (arith, c.if-entries-ne-COUNT.false) in
    traced a.bitboards.now a.board.now a.state a.entries.now c.gathered.result c.occupied.result c.mobility-mobility.result _ _ e
    (fit_all a.bitboards.now a.board.now a.state c.check.result c.check.ensures c.in_default.is).pieces
    (fit_rest a.bitboards.now a.board.now a.state c.check.result c.check.ensures
    (given (trace_of a.bitboards.now a.state.side)) c.in_default.is)
    c.mobility-mobility.ensures c.gathered.ensures c.clear.ensures.0 c.clear.ensures.1 c.occupied.ensures c.mark.ensures
