-- `trace_list::is_list` meets its contract. Assumes nothing.
use native.Mathlib.Omega.{arith}
use Rattle.trace_list.proofs.Tests.{too_many, both_tests}
use Rattle.trace_list.proofs.is_list.Goals as goal

pub returns-then-used-gt-ENTRIES : goal.returns-then-used-gt-ENTRIES
returns-then-used-gt-ENTRIES c =
    let s = c.args in
    too_many s.used s.bytes.now (omega (arith, c.index-used.ensures))

pub returns : goal.returns
returns c =
    let s = c.args in
    both_tests s.used s.bytes.now c.index-used.ensures c.if-used-gt-ENTRIES.false c.is_sorted.ensures c.is_padded.ensures
