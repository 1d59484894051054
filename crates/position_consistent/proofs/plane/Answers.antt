-- `position_consistent::plane` meets its contract: below a code, `all` is the squares of the boards whose code has the digit. Assumes nothing.
use mathlib.Core.Path.{◌≡◌, ap₂, ◌∙◌}
use Prim.Native.Nat.{suc, ◌+◌, ◌-◌}
use native.Mathlib.Omega.{arith}
use lib.Bits.{bit_or}
use Rattle.position_consistent.proofs.Planes.{no_digit, digit_more, digit_all}
use Rattle.position_consistent.proofs.plane.Goals as goal

pub loop-code-init : goal.loop-code-init
loop-code-init c = no_digit c.args.bitboards.now c.args.digit

pub loop-code-preserved : goal.loop-code-preserved
loop-code-preserved c =
    let l = c.loop-code in
    let a = c.args in
    let n = l.code - 2 in
    let here : 2 + n ≡ l.code = omega arith in
    let next : l.code + 1 - 2 ≡ suc n = omega arith in
    let f = c.type_inv.bitboards (2 + n) in
    rw next (ap₂ bit_or c.chosen-all.ensures l.invariant ∙ rw here at (digit_more a.bitboards.now a.digit n f.fits))

pub returns : goal.returns
returns c =
    let l = c.loop-code in
    let a = c.args in
    l.invariant ∙ digit_all a.bitboards.now a.digit (l.code - 2) (omega arith)
