-- `store_summary::replace_record` meets its contract. Assumes nothing.
use mathlib.Core.Path.{ap, sym, subst, ◌∙◌}
use Rattle.std.specs.Prelude.{Result}
use Rattle.refusal.specs.declared.Refusal.{Refusal}
use Rattle.refusal.proofs.Paper.{error_is}
use Rattle.store_summary.specs.Promises.{ReplacesRecord}
use lib.ListN.{length}
use Rattle.store_record.specs.Record.{half_in, record_at}
use Rattle.store_counts.specs.Summary.{wraps_off}
use Rattle.store_counts.proofs.Sizes.{moved_770}
use Rattle.store_summary.proofs.Doors.{replace_shape, replace_position, replace_old_holds, replace_absent, replace_done, there}
use Rattle.store_summary.proofs.replace_record.Goals as goal

pub returns-then-summary-ne-SUMMARY : goal.returns-then-summary-ne-SUMMARY
returns-then-summary-ne-SUMMARY c =
    let a = c.args in
    replace_shape a.bitboards.now a.board.now a.state a.half a.number a.run.now a.summary.now c.if-summary-ne-SUMMARY.true

pub returns-in_err-prepared : goal.returns-in_err-prepared
returns-in_err-prepared c =
    let a = c.args in
    subst (λ (r : Result Unit Refusal). ReplacesRecord a.bitboards.now a.board.now a.state a.half a.number a.run.now a.summary.now r a.run.now a.summary.now)
    (sym (error_is _ _ c.from_residual.ensures))
    (replace_position a.bitboards.now a.board.now a.state a.half a.number a.run.now a.summary.now c.if-summary-ne-SUMMARY.false
    c.prepare-prepared.result c.prepare-prepared.ensures _ c.in_err-prepared.was)

pub returns-in_err-read_at : goal.returns-in_err-read_at
returns-in_err-read_at c =
    let a = c.args in
    subst (λ (r : Result Unit Refusal). ReplacesRecord a.bitboards.now a.board.now a.state a.half a.number a.run.now a.summary.now r a.run.now a.summary.now)
    (sym (error_is _ _ c.from_residual-in_err-read_at.ensures))
    (replace_old_holds a.bitboards.now a.board.now a.state a.half a.number a.run.now a.summary.now c.if-summary-ne-SUMMARY.false
    c.prepare-prepared.result c.prepare-prepared.ensures c.in_ok-prepared.was c.read_at.result c.read_at.ensures _ c.in_err-read_at.was)

pub returns-then-number-summary : goal.returns-then-number-summary
returns-then-number-summary c =
    let a = c.args in
    replace_absent a.bitboards.now a.board.now a.state a.half a.number a.run.now a.summary.now c.if-summary-ne-SUMMARY.false
    c.prepare-prepared.result c.prepare-prepared.ensures c.in_ok-prepared.was c.read_at.result c.read_at.ensures _ _ c.in_ok-read_at.was
    c.if-number-summary.true

pub take_off-requires : goal.take_off-requires
take_off-requires c =
    let a = c.args in
    record {
      size = c.if-summary-ne-SUMMARY.false;
      there = there a.bitboards.now a.board.now a.state a.half a.number a.run.now
          a.summary.now c.if-summary-ne-SUMMARY.false c.prepare-prepared.result c.prepare-prepared.ensures c.in_ok-prepared.was c.read_at.result c.read_at.ensures
          _ _ c.in_ok-read_at.was;
    }

pub keep-requires : goal.keep-requires
keep-requires c =
    let a = c.args in
    record {
      size = ap length c.take_off.ensures ∙ moved_770 a.summary.now (wraps_off 1)
          (wraps_off (half_in (record_at a.run.now a.number))) (record_at a.run.now a.number);
      there =
          there a.bitboards.now a.board.now a.state a.half a.number a.run.now a.summary.now c.if-summary-ne-SUMMARY.false
          c.prepare-prepared.result c.prepare-prepared.ensures c.in_ok-prepared.was c.read_at.result c.read_at.ensures _ _ c.in_ok-read_at.was;
    }

pub returns : goal.returns
returns c =
    let a = c.args in
    replace_done a.bitboards.now a.board.now a.state a.half a.number a.run.now a.summary.now c.if-summary-ne-SUMMARY.false
    c.prepare-prepared.result c.prepare-prepared.ensures c.in_ok-prepared.was c.read_at.result c.read_at.ensures _ _ c.in_ok-read_at.was
    c.if-number-summary.false c.take_off.new.summary c.keep.new.run c.keep.new.summary c.take_off.ensures c.keep.ensures
