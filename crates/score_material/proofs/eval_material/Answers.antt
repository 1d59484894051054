-- `score_material::eval_material` meets its contract. Assumes nothing.
use Rattle.refusal.proofs.Paper.{error_answered}
use mathlib.Core.Path.{◌≡◌, ap, sym, ◌∙◌}
use mathlib.Core.Bool.{Bool}
use mathlib.Core.List.{List}
use Prim.Native.Nat.{ℕ, ◌≤◌, ◌<◌}
use native.Mathlib.Omega.{arith}
use borrow.Author.Tests.{le-leb, lt-leb}
use lib.Dec.{leb}
use lib.IntN.{ℤ, pos}
use mir.Facts.{to_z_pos}
use mir.Syntax.{w16}
use mir.Val.{to_z}
use Rattle.refusal.specs.Answer.{Answer, given, or_refuse, refusal_of}
use Rattle.refusal.specs.declared.Refusal.TheVariants as R
use Rattle.position.specs.Checked.{checked}
use Rattle.position.proofs.Doors.{pass_on, fit_rest}
use Rattle.attack.proofs.Doors.{no_colour, a_colour}
use Rattle.score_material.specs.Material.{worth, material_of}
use Rattle.score_material.proofs.eval_material.Goals as goal

-- what comes after the checks, and its two ends
abbrev total : List ℕ → ℕ → Answer ℤ
total bbs colour = or_refuse (leb (worth bbs colour) 32767) R.Score (given (pos (worth bbs colour)))

over : (n w : ℕ) → n ≡ w → 32767 < n → refusal_of R.Score ≡ or_refuse (leb w 32767) R.Score (given (pos w))
over n w e h = sym (ap (λ (t : Bool). or_refuse t R.Score (given (pos w))) (ap (λ (x : ℕ). leb x 32767) (sym e) ∙ lt-leb n 32767 h))

within : (n w : ℕ) → n ≡ w → n ≤ 32767 → given (to_z w16 n) ≡ or_refuse (leb w 32767) R.Score (given (pos w))
within n w e h =
    ap given (to_z_pos w16 {n = n} (omega arith) ∙ ap pos e)
    ∙ sym (ap (λ (t : Bool). or_refuse t R.Score (given (pos w))) (ap (λ (x : ℕ). leb x 32767) (sym e) ∙ le-leb n 32767 h))

below_two : (n : ℕ) → n ≤ 1 → n < 2
below_two n h = omega arith

pub returns-then-color-gt-BLACK : goal.returns-then-color-gt-BLACK
unfolding material_of
returns-then-color-gt-BLACK c =
    let a = c.args in
    no_colour a.color (checked a.bitboards.now a.board.now a.state (total a.bitboards.now a.color)) (omega arith)

pub returns-in_err-check : goal.returns-in_err-check
unfolding material_of
returns-in_err-check c =
    let a = c.args in
    error_answered _ _ c.from_residual.ensures ∙ pass_on a.bitboards.now a.board.now a.state c.check.result c.check.ensures (total a.bitboards.now a.color)
    _ c.in_err-check.was
    ∙ a_colour a.color (checked a.bitboards.now a.board.now a.state (total a.bitboards.now a.color)) (omega arith)

pub returns-then-total-gt-LARGEST : goal.returns-then-total-gt-LARGEST
unfolding material_of
returns-then-total-gt-LARGEST c =
    let passed : total c.args.bitboards.now c.args.color ≡ material_of c.args.bitboards.now c.args.board.now c.args.state c.args.color = let a = c.args in
    fit_rest a.bitboards.now a.board.now a.state c.check.result c.check.ensures (total a.bitboards.now a.color)
    c.in_ok-check.was
    ∙ a_colour a.color (checked a.bitboards.now a.board.now a.state (total a.bitboards.now a.color)) (below_two a.color c.if-color-gt-BLACK.false) in
    over c.material-total.result _ c.material-total.ensures c.if-total-gt-LARGEST.true ∙ passed

pub returns : goal.returns
unfolding material_of
returns c =
    let passed : total c.args.bitboards.now c.args.color ≡ material_of c.args.bitboards.now c.args.board.now c.args.state c.args.color = let a = c.args in
    fit_rest a.bitboards.now a.board.now a.state c.check.result c.check.ensures (total a.bitboards.now a.color)
    c.in_ok-check.was
    ∙ a_colour a.color (checked a.bitboards.now a.board.now a.state (total a.bitboards.now a.color)) (below_two a.color c.if-color-gt-BLACK.false) in
    within c.material-total.result _ c.material-total.ensures c.if-total-gt-LARGEST.false ∙ passed
