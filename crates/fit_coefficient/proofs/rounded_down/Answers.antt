-- `fit_coefficient::rounded_down` meets its contract. Assumes nothing.
use Rattle.std.proofs.Common.{ℕ, ◌<◌, ◌≤◌, pos, sym, ap, ◌∙◌, subst, arith, w16}
use borrow.Author.Rules.{sfits_of}
use mir.ValLaws.{to_z_pos}
use Rattle.laws.proofs.Words.{held_is}
use Rattle.fit_coefficient.specs.Coefficient.{expected_points}
use Rattle.fit_coefficient.proofs.Scores.{Above, Below, over, under, above, below, some_left, none_left}
use Rattle.fit_coefficient.proofs.rounded_down.Goals as goal

pub returns-then-score : goal.returns-then-score
returns-then-score c = over c.args.score c.if-score.true

pub returns-then-score-2 : goal.returns-then-score-2
returns-then-score-2 c = under c.args.score c.if-score-2.true

pub overflow_cast-result : goal.overflow_cast-result
overflow_cast-result c =
    let upper : Above c.args.score = above c.args.score c.if-score.false c.if-score-3.true in
    let small : c.truncating_f64_to_u64.result < 1600 = subst (λ (n : ℕ). n < 1600) (sym c.truncating_f64_to_u64.ensures) upper.small in
    record { sfits = omega (arith, small) }

pub returns-then-score-3 : goal.returns-then-score-3
returns-then-score-3 c =
    let upper : Above c.args.score = above c.args.score c.if-score.false c.if-score-3.true in
    let small : c.truncating_f64_to_u64.result < 1600 = subst (λ (n : ℕ). n < 1600) (sym c.truncating_f64_to_u64.ensures) upper.small in
    ap expected_points (to_z_pos w16 c.truncating_f64_to_u64.result (omega (arith, small)) ∙ ap pos c.truncating_f64_to_u64.ensures)
    ∙ upper.counts

pub overflow_add-whole : goal.overflow_add-whole
overflow_add-whole c =
    let lower : Below c.args.score = below c.args.score c.requires c.if-score-2.false c.if-score-3.false in
    let most : c.truncating_f64_to_u64-whole.result ≤ 1600 = subst (λ (n : ℕ). n ≤ 1600) (sym c.truncating_f64_to_u64-whole.ensures) lower.small in
    record { fits = omega (arith, most) }

pub below_zero-requires : goal.below_zero-requires
below_zero-requires c =
    let lower : Below c.args.score = below c.args.score c.requires c.if-score-2.false c.if-score-3.false in
    let most : c.truncating_f64_to_u64-whole.result ≤ 1600 = subst (λ (n : ℕ). n ≤ 1600) (sym c.truncating_f64_to_u64-whole.ensures) lower.small in
    omega (arith, most)

pub returns-then-nearest_u64_to_f64-score : goal.returns-then-nearest_u64_to_f64-score
returns-then-nearest_u64_to_f64-score c =
    let lower : Below c.args.score = below c.args.score c.requires c.if-score-2.false c.if-score-3.false in
    ap expected_points (held_is {w = w16} (sfits_of c.below_zero.type_inv) c.below_zero.ensures)
    ∙ some_left c.args.score c.nearest_u64_to_f64.result c.truncating_f64_to_u64-whole.result
    lower c.truncating_f64_to_u64-whole.ensures c.nearest_u64_to_f64.ensures c.if-nearest_u64_to_f64-score.true

pub below_zero-requires-2 : goal.below_zero-requires-2
below_zero-requires-2 c =
    let lower : Below c.args.score = below c.args.score c.requires c.if-score-2.false c.if-score-3.false in
    let most : c.truncating_f64_to_u64-whole.result ≤ 1600 = subst (λ (n : ℕ). n ≤ 1600) (sym c.truncating_f64_to_u64-whole.ensures) lower.small in
    omega (arith, most)

pub returns : goal.returns
returns c =
    let lower : Below c.args.score = below c.args.score c.requires c.if-score-2.false c.if-score-3.false in
    ap expected_points (held_is {w = w16} (sfits_of c.below_zero-2.type_inv) c.below_zero-2.ensures)
    ∙ none_left c.args.score c.nearest_u64_to_f64.result c.truncating_f64_to_u64-whole.result
    lower c.truncating_f64_to_u64-whole.ensures c.nearest_u64_to_f64.ensures c.if-nearest_u64_to_f64-score.false

pub truncating_f64_to_u64-requires-clause-lower_bound : goal.truncating_f64_to_u64-requires-clause-lower_bound
truncating_f64_to_u64-requires-clause-lower_bound c = (above c.args.score c.if-score.false c.if-score-3.true).low

pub truncating_f64_to_u64-requires-clause-upper_bound : goal.truncating_f64_to_u64-requires-clause-upper_bound
truncating_f64_to_u64-requires-clause-upper_bound c = (above c.args.score c.if-score.false c.if-score-3.true).high

pub truncating_f64_to_u64-whole-requires-clause-lower_bound : goal.truncating_f64_to_u64-whole-requires-clause-lower_bound
truncating_f64_to_u64-whole-requires-clause-lower_bound c = (below c.args.score c.requires c.if-score-2.false c.if-score-3.false).low

pub truncating_f64_to_u64-whole-requires-clause-upper_bound : goal.truncating_f64_to_u64-whole-requires-clause-upper_bound
truncating_f64_to_u64-whole-requires-clause-upper_bound c = (below c.args.score c.requires c.if-score-2.false c.if-score-3.false).high
