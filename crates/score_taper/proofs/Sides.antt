-- What a side's answer says of the side, and the three ends of the sum. Assumes nothing.
use mathlib.Core.Path.{◌≡◌, sym, ap, ap₂, ◌∙◌, subst}
use mathlib.Core.Bool.{Bool, true, false, ◌&&◌}
use mathlib.Core.List.{[]}
use Prim.Native.Nat.{ℕ, ◌≤◌}
use lib.Dec.{T, leb}
use lib.IntN.{ℤ, negsuc, nat_abs}
use Rattle.laws.proofs.Truth.{and_r, T_true, true_T}
use Rattle.refusal.specs.Answer.{given, or_refuse, refusal_of}
use Rattle.refusal.specs.declared.Refusal.TheVariants as R
use Rattle.refusal.proofs.Answers.{was_given, was_refused}
use Rattle.score_taper.specs.Parts.{in16, opening_product, ending_product, products_of, side_part, side_fits, first, second, total, sum_fits_rule, points_of}
use Rattle.score_taper.specs.Answers.{part, brought_of}
use Rattle.score_taper.specs.declared.Side.{Side}
use Rattle.score_taper.proofs.Short.{quot_abs}
use Rattle.std.specs.Prelude.{Option, None, Some}

-- ---- a side's answer
pub record Brought (side : Side) (x : ℕ) (z : ℤ) : Type 0 where
  pub fit : side_fits side x ≡ true
  pub is : z ≡ side_part side x
  pub small : nat_abs z ≤ 32768

part_small : (side : Side) (x : ℕ) → side_fits side x ≡ true → nat_abs (side_part side x) ≤ 32768
part_small side x e =
    let z : ℤ = products_of side.opening side.ending x in
    let rest : Bool = leb side.material 32767 && leb side.mobility 32767 && in16 (opening_product side.opening x)
    && in16 (ending_product side.ending x) in
    quot_abs z (negsuc 29) (T_true (in16 z) (and_r rest (in16 z) (true_T e)))

pub brought : (side : Side) (x : ℕ) (r : Option ℤ) (z : ℤ) → part r ≡ brought_of side x → r ≡ Some z → Brought side x z
brought side x r z promise e =
    let g = was_given (side_fits side x) R.Score z (side_part side x) (sym (ap part e) ∙ promise) in
    record { fit = g.0; is = g.1; small = subst (λ (v : ℤ). nat_abs v ≤ 32768) (sym g.1) (part_small side x g.0) }

pub nothing : (side : Side) (x : ℕ) (r : Option ℤ) → part r ≡ brought_of side x → r ≡ None → side_fits side x ≡ false
nothing side x r promise e = was_refused (side_fits side x) R.Score 3 [] (side_part side x) (sym (ap part e) ∙ promise)

-- ---- the two sides and the sum
module _ (own other sum : Bool) (z : ℤ) where
  pub no_own : own ≡ false → refusal_of R.Score ≡ or_refuse (own && other && sum) R.Score (given z)
  no_own e = sym (ap (λ (t : Bool). or_refuse (t && other && sum) R.Score (given z)) e)

  pub no_other : own ≡ true → other ≡ false → refusal_of R.Score ≡ or_refuse (own && other && sum) R.Score (given z)
  no_other e f = sym (ap₂ (λ (t u : Bool). or_refuse (t && u && sum) R.Score (given z)) e f)

  pub both : own ≡ true → other ≡ true → or_refuse sum R.Score (given z) ≡ or_refuse (own && other && sum) R.Score (given z)
  both e f = sym (ap₂ (λ (t u : Bool). or_refuse (t && u && sum) R.Score (given z)) e f)

-- ---- a score that is given is of 16 bits
pub given_short : (own other : Side) (x : ℕ) (z : ℤ) → given z ≡ points_of own other x → in16 z ≡ true
given_short own other x z e =
    let g = was_given (side_fits own x && side_fits other x && sum_fits_rule own other x) R.Score z (total own other x) e in
    let t : T (sum_fits_rule own other x) = and_r (side_fits own x && side_fits other x) (sum_fits_rule own other x) (true_T g.0) in
    ap in16 g.1 ∙ T_true (in16 (total own other x)) (and_r (in16 (first own other x) && in16 (second own other x)) (in16 (total own other x)) t)
