-- One entry of a list, weighed: the two weights stand where 01 says, and a 1 is 1.0. Assumes nothing.
use mathlib.Core.Path.{◌≡◌, refl, sym, ap, ◌∙◌}
use mathlib.Core.Bool.{Bool, true, false, not, cond}
use mathlib.Core.List.{List}
use Prim.Native.Nat.{ℕ, zero, suc, ◌+◌, ◌*◌, ◌^◌, ◌<◌}
use native.Mathlib.Omega.{arith}
use borrow.Author.Tests.{eq-eqb, ne_eqb, eqb-true, eqb-false}
use lib.IntN.{pos}
use lib.ListN.{get_or}
use lib.Dec.{eqb, ltb}
use lib.Ieee.{Float, nan, inf, fin, Format, binary64, prec, emax, low, up, down, unlike, odd, units, round, neg, add, sub, mul, of_int, of_bits}
use lib.Ieee.Fits.{round_is}
use Rattle.places.specs.Places.{entry_place, weight_place, kind_at, square_at, colour_at}
use Rattle.doubles.specs.Doubles.{◌⊕◌, ◌⊖◌, ◌⊗◌, dbl, d1, minus1, d2}
use Rattle.trace_double.specs.Double.{weight_at, between, entry_added}
use Rattle.trace_list_double.specs.Promises.{weighed}

one_is : dbl (pos 1) ≡ d1
unfolding of_int of_bits
one_is = refl

-- ---- the sign: a difference is a sum with what is turned, and −1 times a number is 1 times it, turned
neg_odd : (d : ℕ) (s : Bool) (q k l : ℕ) → neg (odd d s q k l) ≡ odd d (not s) q k l
unfolding neg odd
neg_odd d s zero k l = refl
neg_odd d s (suc q) k l = refl

neg_units : (f : Format) (s : Bool) (q k : ℕ) → neg (units f s q k) ≡ units f (not s) q k
unfolding units neg
neg_units f s q k = go (ltb (q * 2 ^ k) (2 ^ (low f + suc (emax f))))
  where
    go : (b : Bool) → neg (cond b (odd (suc (prec f)) s q k (low f)) (inf s)) ≡ cond b (odd (suc (prec f)) (not s) q k (low f)) (inf (not s))
    go true = neg_odd (suc (prec f)) s q k (low f)
    go false = refl

neg_round : (f : Format) (s : Bool) (n d : ℕ) → neg (round f s n d) ≡ round f (not s) n d
neg_round f s n d = ap neg (round_is f s n d) ∙ neg_units f s _ _ ∙ sym (round_is f (not s) n d)

turned_round : (s : Bool) (n d : ℕ) → round binary64 (unlike true s) n d ≡ neg (round binary64 (unlike false s) n d)
turned_round true n d = sym (neg_round binary64 true n d)
turned_round false n d = sym (neg_round binary64 false n d)

turned : (y : Float) → minus1 ⊗ y ≡ neg (d1 ⊗ y)
unfolding mul of_bits neg
turned nan = refl
turned (inf true) = refl
turned (inf false) = refl
turned (fin s m e) = turned_round s (1 * (m * up e)) (1 * down e)

subtracted : (x y : Float) → x ⊕ minus1 ⊗ y ≡ x ⊖ d1 ⊗ y
unfolding sub
subtracted x y = ap (λ (z : Float). x ⊕ z) (turned y)

pub sign_is : (colour : ℕ) → colour < 2 → d1 ⊖ d2 ⊗ dbl (pos colour) ≡ cond (eqb colour 0) d1 minus1
unfolding sub add mul round of_int of_bits
sign_is zero h = refl
sign_is (suc zero) h = refl
sign_is (suc (suc n)) h = absurd (omega arith)

module _ (squares : List Float) (x score : Float) (kind square colour at later : ℕ) where
  abbrev value : Float
  value = d1 ⊗ between (get_or squares at nan) (get_or squares later nan) x

  value_is : square < 64 → colour < 2 → at ≡ 128 * kind + square → later ≡ at + 64
      → value ≡ dbl (pos 1) ⊗ between (weight_at squares 0 (entry_place kind square colour)) (weight_at squares 1 (entry_place kind square colour)) x
  value_is s c a l =
      let k : ℕ = entry_place kind square colour in
      let o : at ≡ weight_place (kind_at (entry_place kind square colour)) 0 (square_at (entry_place kind square colour)) = omega arith in
      let e : later ≡ weight_place (kind_at (entry_place kind square colour)) 1 (square_at (entry_place kind square colour)) = omega arith in
      rw (one_is, sym o, sym e)

  white : square < 64 → colour < 2 → at ≡ 128 * kind + square → later ≡ at + 64 → colour ≡ 0
      → score ⊕ value ≡ weighed squares x score (entry_place kind square colour)
  unfolding entry_added
  white s c a l e =
      let q : colour_at (entry_place kind square colour) ≡ 0 = omega arith in
      rw (eq-eqb (colour_at (entry_place kind square colour)) 0 q, sym (value_is s c a l))

  black : square < 64 → colour < 2 → at ≡ 128 * kind + square → later ≡ at + 64 → (colour ≡ 0 → ⊥)
      → score ⊖ value ≡ weighed squares x score (entry_place kind square colour)
  unfolding entry_added
  black s c a l e =
      let q : colour_at (entry_place kind square colour) ≡ 0 → ⊥ = λ z. e (omega arith) in
      rw (ne_eqb (colour_at (entry_place kind square colour)) 0 q, sym (value_is s c a l))

  -- by the sign, for both
  pub by_sign : square < 64 → colour < 2 → at ≡ 128 * kind + square → later ≡ at + 64 → (sign : Float) → sign ≡ cond (eqb colour 0) d1 minus1
      → score ⊕ sign ⊗ between (get_or squares at nan) (get_or squares later nan) x ≡ weighed squares x score (entry_place kind square colour)
  by_sign s c a l sign e = go (eqb colour 0) refl
    where
      go : (b : Bool) → eqb colour 0 ≡ b → score ⊕ sign ⊗ between (get_or squares at nan) (get_or squares later nan) x
          ≡ weighed squares x score (entry_place kind square colour)
      go true q = ap (λ (z : Float). score ⊕ z ⊗ between (get_or squares at nan) (get_or squares later nan) x) (e ∙ ap (λ (b : Bool). cond b d1 minus1) q)
          ∙ white s c a l (eqb-true colour 0 q)
      go false q =
          ap (λ (z : Float). score ⊕ z ⊗ between (get_or squares at nan) (get_or squares later nan) x) (e ∙ ap (λ (b : Bool). cond b d1 minus1) q)
          ∙ subtracted score (between (get_or squares at nan) (get_or squares later nan) x) ∙ black s c a l (eqb-false colour 0 q)
