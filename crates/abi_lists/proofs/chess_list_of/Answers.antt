-- `abi_lists::chess_list_of` meets its contract. Assumes nothing.
use mathlib.Core.Path.{◌≡◌, refl, ◌∙◌}
use mir.Syntax.{w32}
use mir.ValLaws.{to_z-of_z}
use Rattle.abi_records.specs.Records.{trace_of_numbers}
use Rattle.abi_records.proofs.Read.{trace_same}
use Rattle.abi_lists.proofs.Passed.{list_passed}
use Rattle.abi_lists.proofs.chess_list_of.Goals as goal

pub returns-in-Err : goal.returns-in-Err
returns-in-Err c =
    let handed : c.trace_of-trace.result ≡ trace_of_numbers c.args.counts.now c.args.mobility.now c.args.sign c.args.pieces =
    c.trace_of-trace.ensures
    ∙ trace_same refl refl refl refl refl refl refl (to_z-of_z w32 c.args.sign c.ranges.sign) (to_z-of_z w32 c.args.pieces c.ranges.pieces) in
    let a = c.args in
    list_passed a.counts.now a.mobility.now a.sign a.pieces c.list_of-answer.ensures handed c.in-Err.is
    c.refused.ensures refl

pub returns-in-Ok : goal.returns-in-Ok
returns-in-Ok c =
    let handed : c.trace_of-trace.result ≡ trace_of_numbers c.args.counts.now c.args.mobility.now c.args.sign c.args.pieces =
    c.trace_of-trace.ensures
    ∙ trace_same refl refl refl refl refl refl refl (to_z-of_z w32 c.args.sign c.ranges.sign) (to_z-of_z w32 c.args.pieces c.ranges.pieces) in
    let a = c.args in
    list_passed a.counts.now a.mobility.now a.sign a.pieces c.list_of-answer.ensures handed c.in-Ok.is refl refl
