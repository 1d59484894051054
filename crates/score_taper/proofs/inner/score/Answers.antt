-- `score_taper::inner::score` meets its contract: what each side answered says what it fits, and the last step is `joined`. Assumes nothing.
use mathlib.Core.Path.{◌≡◌, ap, ap₂, ◌∙◌}
use borrow.Author.Rules.{sfits_of}
use lib.IntN.{ℤ, ◌-ℤ◌}
use mir.Syntax.{w64}
use Rattle.laws.proofs.Words.{held, held_is}
use Rattle.score_taper.specs.Parts.{side_part, side_fits, sum_fits_rule, total}
use Rattle.score_taper.specs.Answers.{joined_of}
use Rattle.score_taper.proofs.Sides as sides
use Rattle.score_taper.proofs.Steps.{minus_fits, minus_is, minus_small}
use Rattle.score_taper.proofs.inner.score.Goals as goal

pub returns-in_default-b : goal.returns-in_default-b
returns-in_default-b c =
    let a = c.args in
    let own : sides.Brought a.own a.x c.in-Some.mine = sides.brought a.own a.x c.brought-a.result _ c.brought-a.ensures c.in-Some.is in
    sides.no_other (side_fits a.own a.x) (side_fits a.other a.x) (sum_fits_rule a.own a.other a.x) (total a.own a.other a.x)
    own.fit (sides.nothing a.other a.x c.brought-b.result c.brought-b.ensures c.in_default-b.is)

pub overflow_sub-mine : goal.overflow_sub-mine
overflow_sub-mine c =
    let a = c.args in
    let own : sides.Brought a.own a.x c.in-Some.mine = sides.brought a.own a.x c.brought-a.result _ c.brought-a.ensures c.in-Some.is in
    let other : sides.Brought a.other a.x c.in-Some-b.theirs = sides.brought a.other a.x c.brought-b.result _ c.brought-b.ensures c.in-Some-b.is in
    minus_fits c.in-Some.mine c.in-Some-b.theirs own.small other.small

pub joined-requires : goal.joined-requires
joined-requires c =
    let a = c.args in
    let own : sides.Brought a.own a.x c.in-Some.mine = sides.brought a.own a.x c.brought-a.result _ c.brought-a.ensures c.in-Some.is in
    let other : sides.Brought a.other a.x c.in-Some-b.theirs = sides.brought a.other a.x c.brought-b.result _ c.brought-b.ensures c.in-Some-b.is in
    let m = c.less-material in
    let b = c.less-mobility in (
      minus_small c.in-Some.mine c.in-Some-b.theirs own.small other.small,
      rw (held_is {w = w64} (sfits_of m.type_inv) m.ensures.0) (rw m.ensures.0 at m.ensures.1),
      rw (held_is {w = w64} (sfits_of b.type_inv) b.ensures.0) (rw b.ensures.0 at b.ensures.1),
    )

pub returns : goal.returns
returns c =
    let a = c.args in
    let own : sides.Brought a.own a.x c.in-Some.mine = sides.brought a.own a.x c.brought-a.result _ c.brought-a.ensures c.in-Some.is in
    let other : sides.Brought a.other a.x c.in-Some-b.theirs = sides.brought a.other a.x c.brought-b.result _ c.brought-b.ensures c.in-Some-b.is in
    let z = side_part a.own a.x -ℤ side_part a.other a.x in
    let m = c.less-material in
    let b = c.less-mobility in
    let e : held w64 (held w64 c.in-Some.mine -ℤ held w64 c.in-Some-b.theirs) ≡ z =
    minus_is c.in-Some.mine c.in-Some-b.theirs own.small other.small ∙ ap₂ ◌-ℤ◌ own.is other.is in
    c.joined.ensures
    ∙ ap (λ (z : ℤ). joined_of z (held w64 m.result) (held w64 b.result)) e
    ∙ ap₂ (joined_of z)
    (held_is {w = w64} (sfits_of m.type_inv) m.ensures.0)
    (held_is {w = w64} (sfits_of b.type_inv) b.ensures.0)
    ∙ sides.both (side_fits a.own a.x) (side_fits a.other a.x) (sum_fits_rule a.own a.other a.x) (total a.own a.other a.x) own.fit other.fit
