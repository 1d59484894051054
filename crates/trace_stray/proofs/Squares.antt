-- One square weight of the double, with the shipped weights: the products and the sum before its quotient are exact, so that the quotient by
-- thirty and the product with the entry, which is 1, may round once each, and the sum that takes it up once more. Assumes nothing.
use mathlib.Core.Path.{◌≡◌, refl, sym, ap, ◌∙◌, subst}
use mathlib.Core.Bool.{Bool, true, false, cond}
use Prim.Native.Nat.{ℕ, zero, suc, ◌+◌, ◌*◌, ◌/◌, ◌%◌, ◌≤◌, ◌<◌}
use native.Mathlib.Omega.{arith}
use lib.Dec.{eqb, lit≤}
use lib.IntN.{ℤ, pos, neg_ℤ, neg_ℤ-neg_ℤ, nat_abs, ◌+ℤ◌, ◌-ℤ◌, ◌*ℤ◌, +ℤ_idr, zero-*ℤ}
use lib.ListN.{get_or}
use lib.Ieee.{Float, nan, of_bits, of_int, sub}
use lib.Ieee.Exact.{HasValue}
use Rattle.laws.proofs.Tables.{entry}
use Rattle.laws.proofs.Whole.{once, products_turned}
use Rattle.chess.specs.Codes.{code_of}
use Rattle.chess.proofs.Codes.{white_le}
use Rattle.score_pst.proofs.Table.{small}
use Rattle.places.specs.Places.{weight_place, kind_at, square_at, colour_at}
use Rattle.doubles.specs.Doubles.{◌⊕◌, ◌⊖◌, ◌⊗◌, dbl, d2, d32}
use Rattle.trace_shipped.specs.Weights.{square_weight, shipped_squares}
use Rattle.trace_double.specs.Double.{weight_at, between, entry_added}
use Rattle.trace_rounding.proofs.Doubles.{Exactly, exactly_int, exactly_add, exactly_sub, exactly_mul, Nearly, nearly_add, nearly_sub}
use Rattle.trace_rounding.proofs.Doubles.{nearly_minus_thirtieth, nearly_once}

-- ---- the literals
one : HasValue (dbl (pos 1)) false 1 1
unfolding of_int
one = (refl, refl)

two : Exactly d2 (pos 2) 2
unfolding of_bits
two = record { is = (2, refl, (omega arith, omega arith)); most = omega arith }

thirty_two : Exactly d32 (pos 32) 32
unfolding of_bits
thirty_two = record { is = (32, refl, (omega arith, omega arith)); most = omega arith }

minus_thirty : HasValue (d2 ⊖ d32) true 30 1
unfolding sub of_bits
minus_thirty = (refl, refl)

-- ---- the shipped square weights are whole numbers, no farther than 117 from zero
weight_small : (i : ℕ) → i < 768 → nat_abs (square_weight i) ≤ 117
unfolding square_weight
weight_small i h = small (code_of (i / 128) 0) (i % 64) (i % 128 / 64) (omega (arith, white_le (i / 128))) (omega arith) (omega arith)

weight_exactly : (i : ℕ) → i < 768 → Exactly (get_or shipped_squares i nan) (square_weight i) 117
unfolding shipped_squares
weight_exactly i h =
    subst (λ (x : Float). Exactly x (square_weight i) 117) (sym (entry 768 (λ i. dbl (square_weight i)) nan i h))
    (exactly_int (square_weight i) 117 (weight_small i h) (lit≤ tt))

-- ---- "opening·(x−2) + ending·(32−x)": what the quotient's two signs, both turned, come to
abbrev pub weighed : ℤ → ℤ → ℤ → ℤ
weighed opening ending x = opening *ℤ (x -ℤ pos 2) +ℤ ending *ℤ (pos 32 -ℤ x)

signs_turned : (o e x : ℤ) → neg_ℤ (o *ℤ (pos 2 -ℤ x) +ℤ e *ℤ (x -ℤ pos 32)) ≡ weighed o e x
signs_turned o e x = ap neg_ℤ (products_turned o e (pos 2) x x (pos 32)) ∙ neg_ℤ-neg_ℤ (weighed o e x)

between_nearly : {o e x : Float} {u v z : ℤ} → Exactly o u 117 → Exactly e v 117 → Exactly x z 64 → Nearly (between o e x) (weighed u v z) 1 18954
between_nearly {o} {e} {x} {u} {v} {z} p q r =
    subst (λ (w : ℤ). Nearly (between o e x) w 1 18954) (signs_turned u v z)
    (nearly_minus_thirtieth (d2 ⊖ d32)
    (exactly_add (exactly_mul p (exactly_sub two r (lit≤ tt)) (lit≤ tt)) (exactly_mul q (exactly_sub r thirty_two (lit≤ tt)) (lit≤ tt)) (lit≤ tt))
    minus_thirty (lit≤ tt))

-- ---- the entry at k: White's added, Black's subtracted
abbrev pub weight_of : ℤ → ℕ → ℤ
weight_of x k = weighed (square_weight (weight_place (kind_at k) 0 (square_at k))) (square_weight (weight_place (kind_at k) 1 (square_at k))) x

unfoldable pub placed : ℤ → ℕ → ℤ → ℤ
placed x k entry = cond (eqb (colour_at k) 0) (entry *ℤ weight_of x k) (neg_ℤ (entry *ℤ weight_of x k))

-- a sum with g entries of 1 taken up
pub record Sum (s : Float) (z : ℤ) (g : ℕ) : Type 0 where
  pub nearly : Nearly s z (17 + g * 3) (9793158 + g * 18954)

same : {s : Float} {z w : ℤ} {k l b c : ℕ} → z ≡ w → k ≡ l → b ≡ c → Nearly s z k b → Nearly s w l c
same {s} {z} {w} {k} {l} {b} {c} e f h p = subst (λ (i : ℤ). Nearly s i l c) e (subst (λ (i : ℕ). Nearly s z i c) f (subst (λ (i : ℕ). Nearly s z k i) h p))

term_nearly : (x : Float) (z : ℤ) (k : ℕ) → k < 768 → Exactly x z 64
    → Nearly (dbl (pos 1) ⊗ between (weight_at shipped_squares 0 k) (weight_at shipped_squares 1 k) x) (weight_of z k) 2 18954
term_nearly x z k h r =
    nearly_once (dbl (pos 1))
    one
    (between_nearly (weight_exactly (weight_place (kind_at k) 0 (square_at k)) (omega arith))
    (weight_exactly (weight_place (kind_at k) 1 (square_at k)) (omega arith)) r)
    (lit≤ tt) (lit≤ tt)

-- ONE ENTRY MORE; an entry of 0 leaves the sum
pub step : {s : Float} {w : ℤ} (x : Float) (z : ℤ) (g k n : ℕ) → Exactly x z 64 → k < 768 → n ≤ 1 → g + n ≤ 768 → Sum s w g
    → Sum (entry_added shipped_squares x s k (pos n)) (w +ℤ placed z k (pos n)) (g + n)
unfolding entry_added placed
step {s} {w} x z g k zero r h l m p = record {
  nearly = same (sym (ap (λ (i : ℤ). w +ℤ i) (nothing (eqb (colour_at k) 0) (weight_of z k)) ∙ +ℤ_idr w)) (omega arith) (omega arith) p.nearly;
}
  where
    nothing : (t : Bool) (v : ℤ) → cond t (pos 0 *ℤ v) (neg_ℤ (pos 0 *ℤ v)) ≡ pos 0
    nothing true v = zero-*ℤ v
    nothing false v = ap neg_ℤ (zero-*ℤ v)
step {s} {w} x z g k (suc zero) r h l m p = go (eqb (colour_at k) 0)
  where
    v : Float
    v = dbl (pos 1) ⊗ between (weight_at shipped_squares 0 k) (weight_at shipped_squares 1 k) x

    go : (t : Bool) → Sum (cond t (s ⊕ v) (s ⊖ v)) (w +ℤ cond t (pos 1 *ℤ weight_of z k) (neg_ℤ (pos 1 *ℤ weight_of z k))) (g + 1)
    go true = record {
      nearly = same (ap (λ (i : ℤ). w +ℤ i) (sym (once (weight_of z k)))) (omega arith) (omega arith)
          (nearly_add p.nearly (term_nearly x z k h r) (omega arith) (omega arith));
    }
    go false = record {
      nearly = same (ap (λ (i : ℤ). w +ℤ neg_ℤ i) (sym (once (weight_of z k)))) (omega arith) (omega arith)
          (nearly_sub p.nearly (term_nearly x z k h r) (omega arith) (omega arith));
    }
step x z g k (suc (suc n)) r h l m p = absurd (omega arith)
