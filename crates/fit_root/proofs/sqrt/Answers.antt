-- `fit_root::sqrt` meets its contract, case by case. Assumes nothing.
use Rattle.std.proofs.Common.{◌≡◌, ℕ, suc, ◌-◌, ◌/◌, ◌^◌, T, sym, refl, subst, arith}
use lib.Ieee.{binary64, fits}
use Rattle.laws.proofs.Nans.{is_no_nan}
use Rattle.fit_root.proofs.Fields.{Above, above, at_nan, at_zero, at_negative, endless_root, field_below, root_small, root_large, digits_above}
use Rattle.fit_root.proofs.sqrt.Goals as goal

pub returns-then-x : goal.returns-then-x
returns-then-x c = at_nan _ c.if-x.true

pub returns-then-x-2 : goal.returns-then-x-2
returns-then-x-2 c = at_zero _ c.if-x-2.true

pub returns-then-x-3 : goal.returns-then-x-3
returns-then-x-3 c = at_negative _ c.if-x-3.true

pub float_to_bits-bits : goal.float_to_bits-bits
float_to_bits-bits c = is_no_nan _ c.if-x.false

pub returns-then-field-eq-ENDLESS : goal.returns-then-field-eq-ENDLESS
returns-then-field-eq-ENDLESS c =
    let positive : Above c.args.x = above _ c.if-x.false c.if-x-2.false c.if-x-3.false in
    let fitting : T (fits binary64 c.args.x) = subst T (sym c.well_formed.0.1) tt in
    endless_root _ (positive) (fitting) c.if-field-eq-ENDLESS.true

pub root_of-requires : goal.root_of-requires
root_of-requires c =
    let positive : Above c.args.x = above _ c.if-x.false c.if-x-2.false c.if-x-3.false in
    let fitting : T (fits binary64 c.args.x) = subst T (sym c.well_formed.0.1) tt in
    (digits_above _ (positive) (fitting) _ refl c.if-field-eq0.true, omega arith, omega arith)

pub returns-then-field-eq0 : goal.returns-then-field-eq0
returns-then-field-eq0 c =
    let positive : Above c.args.x = above _ c.if-x.false c.if-x-2.false c.if-x-3.false in
    let fitting : T (fits binary64 c.args.x) = subst T (sym c.well_formed.0.1) tt in
    root_small _ (positive) (fitting) _ _ refl c.if-field-eq0.true c.root_of.ensures

pub root_of-requires-2 : goal.root_of-requires-2
root_of-requires-2 c =
    let positive : Above c.args.x = above _ c.if-x.false c.if-x-2.false c.if-x-3.false in
    let fitting : T (fits binary64 c.args.x) = subst T (sym c.well_formed.0.1) tt in
    let h = field_below _ (positive) (fitting) c.if-field-eq-ENDLESS.false in
    (omega arith, omega arith, omega arith)

pub returns : goal.returns
returns c =
    let positive : Above c.args.x = above _ c.if-x.false c.if-x-2.false c.if-x-3.false in
    let fitting : T (fits binary64 c.args.x) = subst T (sym c.well_formed.0.1) tt in
    let h = field_below _ (positive) (fitting) c.if-field-eq-ENDLESS.false in
    let z : (b : ℕ) → (b / 2 ^ 52 ≡ 0 → ⊥) → b / 2 ^ 52 ≡ suc (b / 2 ^ 52 - 1) = λ b n. omega (arith, n) in
    root_large _ (positive) (fitting) _ _ _ refl (z _ c.if-field-eq0.false) (omega (arith, c.if-field-eq0.false)) c.root_of-2.ensures
