-- `trace_list_computed::compute_list` meets its contract. Assumes nothing.
use native.Mathlib.Omega.{arith}
use Rattle.refusal.specs.Answer.{given}
use Rattle.position.proofs.Doors.{pass_on, fit_rest, fit_all}
use Rattle.trace.specs.Trace.{trace_of}
use Rattle.trace_list_computed.proofs.Sums.{are_few, used_few}
use Rattle.trace_list_computed.proofs.Doors.{refuses, computed}
use Rattle.trace_list_computed.proofs.compute_list.Goals as goal

pub returns-in-Err : goal.returns-in-Err
returns-in-Err c =
    let q = c.in-Err.refusal in
    let a = c.args in
    refuses a.bitboards.now a.board.now a.state a.bytes.now c.refused.result q
    (pass_on a.bitboards.now a.board.now a.state c.check.result c.check.ensures
    (given (trace_of a.bitboards.now a.state.side)) q c.in-Err.is)
    c.refused.ensures

pub listed-entries-requires : goal.listed-entries-requires
listed-entries-requires c =
    let a = c.args in (
      are_few a.bitboards.now a.board.now (fit_all a.bitboards.now a.board.now a.state c.check.result c.check.ensures
          c.in_default.is).pieces,
      c.clear.ensures,
    )

pub overflow_cast-used : goal.overflow_cast-used
overflow_cast-used c =
    let a = c.args in
    let h = used_few a.bitboards.now a.board.now c.listed-entries.result
    (fit_all a.bitboards.now a.board.now a.state c.check.result c.check.ensures c.in_default.is).pieces
    c.listed-entries.ensures.0 in
    omega (arith, h)

pub returns : goal.returns
returns c =
    let a = c.args in
    computed a.bitboards.now a.board.now a.state a.bytes.now c.gathered-trace.result c.mobility-mobility.result c.listed-entries.result _
    (fit_all a.bitboards.now a.board.now a.state c.check.result c.check.ensures c.in_default.is).pieces
    (fit_rest a.bitboards.now a.board.now a.state c.check.result c.check.ensures
    (given (trace_of a.bitboards.now a.state.side)) c.in_default.is)
    c.mobility-mobility.ensures c.gathered-trace.ensures c.listed-entries.ensures.0 c.listed-entries.ensures.1
