-- `score_taper::inner::brought` meets its contract. Assumes nothing.
use mathlib.Core.Path.{◌≡◌, ap, ap₂, ◌∙◌}
use borrow.Author.Rules.{sfits_of}
use borrow.Author.Tests.{le-leb}
use lib.IntN.{ℤ}
use mir.Facts.{to_z-of_z}
use mir.Syntax.{w32, w64}
use mir.Val.{SFits}
use Rattle.laws.proofs.Words.{held, held_is}
use Rattle.score_taper.specs.Parts.{opening_product, ending_product}
use Rattle.score_taper.specs.Answers.{divided_of}
use Rattle.score_taper.proofs.inner.brought.Goals as goal

pub returns : goal.returns
returns c =
    let opening_is : held w64 c.product-opening.result ≡ opening_product c.args.side.opening c.args.x = let a = c.args in
    let f : SFits w32 a.side.opening = record { sfits = c.struct_told-1.given.0.1 } in
    held_is {w = w64} (sfits_of c.product-opening.type_inv) (c.product-opening.ensures ∙ ap (λ (y : ℤ). opening_product y a.x) (to_z-of_z {w = w32} f)) in
    let ending_is : held w64 c.product-ending.result ≡ ending_product c.args.side.ending c.args.x = let a = c.args in
    let f : SFits w32 a.side.ending = record { sfits = c.struct_told-2-1.given.1.0.1 } in
    held_is {w = w64} (sfits_of c.product-ending.type_inv) (c.product-ending.ensures ∙ ap (λ (y : ℤ). ending_product y a.x) (to_z-of_z {w = w32} f)) in
    let s = c in
    c.divided.ensures ∙ ap₂ divided_of (opening_is) (ending_is)
    ∙ simp (le-leb _ _ s.if-side-gt-LARGEST_SUM.false, le-leb _ _ s.if-side-gt-LARGEST_SUM-2.false)
