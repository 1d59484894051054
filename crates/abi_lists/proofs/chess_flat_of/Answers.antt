-- `abi_lists::chess_flat_of` meets its contract. Assumes nothing.
use mathlib.Core.Path.{◌≡◌, refl, ◌∙◌}
use mir.Syntax.{w32}
use mir.ValLaws.{to_z-of_z}
use Rattle.abi_records.specs.Records.{trace_of_numbers}
use Rattle.abi_records.proofs.Read.{trace_same}
use Rattle.abi_lists.proofs.Passed.{flat_passed}
use Rattle.abi_lists.proofs.chess_flat_of.Goals as goal

pub returns-in-Err : goal.returns-in-Err
returns-in-Err c =
    let handed : c.trace_of-trace.result ≡ trace_of_numbers c.args.counts.now c.args.mobility.now c.args.sign c.args.pieces =
    c.trace_of-trace.ensures
    ∙ trace_same refl refl refl refl refl refl refl (to_z-of_z w32 c.args.sign c.ranges.sign) (to_z-of_z w32 c.args.pieces c.ranges.pieces) in
    let flat_of_holds = c.flat_of-answer in
    flat_passed flat_of_holds.ensures handed c.in-Err.is c.refused.ensures

pub returns-in-Ok : goal.returns-in-Ok
returns-in-Ok c =
    let handed : c.trace_of-trace.result ≡ trace_of_numbers c.args.counts.now c.args.mobility.now c.args.sign c.args.pieces =
    c.trace_of-trace.ensures
    ∙ trace_same refl refl refl refl refl refl refl (to_z-of_z w32 c.args.sign c.ranges.sign) (to_z-of_z w32 c.args.pieces c.ranges.pieces) in
    flat_passed c.flat_of-answer.ensures handed c.in-Ok.is refl
