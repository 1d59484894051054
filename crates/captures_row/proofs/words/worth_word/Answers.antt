-- `captures_row::words::worth_word` meets its contract. Assumes nothing.
use mathlib.Core.Path.{◌≡◌, refl, sym, subst, ◌∙◌}
use lib.IntN.{ℤ}
use mir.Syntax.{w32, w64}
use mir.Val.{SFits}
use native.Mathlib.Omega.{arith}
use Rattle.laws.proofs.Words.{widens, held, held_is}
use Rattle.text_out.specs.Text.{signed_of, Adds}
use Rattle.text_out.proofs.Added.{adds_or, adds_then}
use Rattle.ledger_row.proofs.Fits.{length_signed}
use Rattle.captures_row.proofs.words.worth_word.Goals as goal

pub returns : goal.returns
returns c =
    let a = c.args in
    let q = c.put-end in
    let p = c.signed in
    let w = c.wide in
    let n = c.ranges.worth in
    let e : w.result ≡ a.worth = w.ensures ∙ held_is {w = w32} n refl in
    let f : SFits w64 w.result = subst (SFits w64) (sym e) (widens {w = w32} w64 tt n) in
    adds_then q.ensures
    (subst (λ (z : ℤ). Adds q.new.out q.result (signed_of z) p.new.out c.unwrap_or.result) (held_is {w = w64} f e)
    (adds_or q.new.out q.result (signed_of (held w64 w.result)) p.new.out p.result c.unwrap_or.result p.ensures c.unwrap_or.ensures))
    (omega (arith, length_signed a.worth, c.requires))
