-- `abi_fits::fits::chess_gradient_add` meets its contract. Assumes nothing.
use mathlib.Core.Path.{◌≡◌, refl, ◌∙◌}
use mir.Syntax.{w32}
use mir.ValLaws.{to_z-of_z}
use Rattle.abi_records.specs.Records.{trace_of_numbers}
use Rattle.abi_records.proofs.Read.{trace_same}
use Rattle.abi_fits.proofs.Fitted.{line_passed}
use Rattle.abi_fits.proofs.fits.chess_gradient_add.Goals as goal

pub returns-in-Err : goal.returns-in-Err
returns-in-Err c =
    let handed : c.trace_of-trace.result ≡ trace_of_numbers c.args.counts.now c.args.mobility.now c.args.sign c.args.pieces =
    c.trace_of-trace.ensures
    ∙ trace_same refl refl refl refl refl refl refl (to_z-of_z w32 c.args.sign c.ranges.sign) (to_z-of_z w32 c.args.pieces c.ranges.pieces) in
    let add = c.add-answer in
    line_passed add.ensures handed c.in-Err.is c.refused.ensures

pub returns-in-Ok : goal.returns-in-Ok
returns-in-Ok c =
    let handed : c.trace_of-trace.result ≡ trace_of_numbers c.args.counts.now c.args.mobility.now c.args.sign c.args.pieces =
    c.trace_of-trace.ensures
    ∙ trace_same refl refl refl refl refl refl refl (to_z-of_z w32 c.args.sign c.ranges.sign) (to_z-of_z w32 c.args.pieces c.ranges.pieces) in
    line_passed c.add-answer.ensures handed c.in-Ok.is refl
