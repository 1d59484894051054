-- `score_taper::inner::joined` meets its contract: each return rewrites with the tests that led there. Assumes nothing.
use mathlib.Core.Bool.{true, false}
use mathlib.Core.Path.{◌≡◌, sym, ap, ◌∙◌, subst}
use borrow.Author.Tests.{not-true, not-false}
use lib.IntN.{ℤ, pos, ◌+ℤ◌}
use mir.Facts.{to_z-of_z}
use mir.Syntax.{w16, w64}
use mir.Val.{SFits}
use Rattle.laws.proofs.Words.{held}
use Rattle.refusal.specs.Answer.{given}
use Rattle.score_taper.specs.Parts.{in16}
use Rattle.score_taper.proofs.Short.{short_fits}
use Rattle.score_taper.proofs.Joined as laws
use Rattle.score_taper.proofs.inner.joined.Goals as goal

-- the three sums
abbrev first : ℤ → ℤ → ℤ
first p m = p +ℤ m

abbrev second : ℤ → ℤ → ℤ → ℤ
second p m q = first p m +ℤ q

abbrev total : ℤ → ℤ → ℤ → ℤ
total p m q = second p m q +ℤ pos 11

pub returns-then-not-short-3 : goal.returns-then-not-short-3
returns-then-not-short-3 c =
    let p = c.args.weights in
    let m = c.args.material in
    let q = c.args.mobility in
    let small : laws.Small p m q = record { weights = c.requires.0; material = c.requires.1; mobility = c.requires.2 } in
    let yes-first : in16 (first p m) ≡ true = ap in16 (sym (laws.first_is p m q small)) ∙ sym c.short.ensures ∙ not-false _ c.if-not-short.false-raw in
    let yes-second : in16 (second p m q) ≡ true = ap in16 (sym (laws.second_is p m q small)) ∙ sym c.short-2.ensures ∙ not-false _ c.if-not-short-2.false-raw in
    let no-total : in16 (total p m q) ≡ false = ap in16 (sym (laws.total_is p m q small)) ∙ sym c.short-3.ensures ∙ not-true _ c.if-not-short-3.true-raw in
    simp (yes-first, yes-second, no-total)

pub returns : goal.returns
returns c =
    let p = c.args.weights in
    let m = c.args.material in
    let q = c.args.mobility in
    let small : laws.Small p m q = record { weights = c.requires.0; material = c.requires.1; mobility = c.requires.2 } in
    let total_is = laws.total_is p m q small in
    let yes-first : in16 (first p m) ≡ true = ap in16 (sym (laws.first_is p m q small)) ∙ sym c.short.ensures ∙ not-false _ c.if-not-short.false-raw in
    let yes-second : in16 (second p m q) ≡ true = ap in16 (sym (laws.second_is p m q small)) ∙ sym c.short-2.ensures ∙ not-false _ c.if-not-short-2.false-raw in
    let yes-total : in16 (total p m q) ≡ true = ap in16 (sym total_is) ∙ sym c.short-3.ensures ∙ not-false _ c.if-not-short-3.false-raw in
    let fits : SFits w16 (held w64 (held w64 (held w64 (held w64 p +ℤ held w64 m) +ℤ held w64 q) +ℤ pos 11)) =
    subst (SFits w16) (sym total_is) (short_fits (total p m q) yes-total) in
    ap given (to_z-of_z {w = w16} fits ∙ total_is) ∙ simp (yes-first, yes-second, yes-total)
