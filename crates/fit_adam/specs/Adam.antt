-- The Adam update, by document 02, W-211: "the Adam update over 779 weights: pawn never moves, constants as in the Rust", one rounding for
-- each operation, in the order of `tune`. Definitions only.
use Rattle.std.specs.Prelude.{cond, List, ℕ, zero, suc, eqb, get_or, Float}
use Rattle.std.specs.Float.{nan, binary64}
use Rattle.std.specs.Float.Ieee.{of_bits}
use Rattle.laws.specs.Tables.{tabulate}
use Rattle.doubles.specs.Doubles.{◌⊕◌, ◌⊖◌, ◌⊗◌, ◌⊘◌, d1}
use Rattle.fit_root.specs.Root.{root_of}

-- "constants as in the Rust": beta1 = 0.9, beta2 = 0.999 and epsilon = 1e-8, by their bits; 1 − beta1 and 1 − beta2 are worked out, as there
abbrev pub beta1 : Float
beta1 = of_bits binary64 0x3fec_cccc_cccc_cccd

abbrev pub beta2 : Float
beta2 = of_bits binary64 0x3fef_f7ce_d916_872b

abbrev pub epsilon : Float
epsilon = of_bits binary64 0x3e45_798e_e230_8c3a

-- "Powers of the two decay constants are running products from 1"
unfoldable pub power : Float → ℕ → Float
power beta zero = d1
power beta (suc n) = power beta n ⊗ beta

-- m = beta1 * m + (1 - beta1) * g
unfoldable pub first_moment : Float → Float → Float
first_moment m g = beta1 ⊗ m ⊕ (d1 ⊖ beta1) ⊗ g

-- v = beta2 * v + (1 - beta2) * g * g
unfoldable pub second_moment : Float → Float → Float
second_moment v g = beta2 ⊗ v ⊕ (d1 ⊖ beta2) ⊗ g ⊗ g

-- w -= rate * m_hat / (sqrt(v_hat) + epsilon), where m_hat = m / (1 - p) and v_hat = v / (1 - q), for the powers p of beta1 and q of beta2
unfoldable pub weight_moved : Float → Float → Float → Float → Float → Float → Float
weight_moved p q rate m v w = w ⊖ rate ⊗ (m ⊘ (d1 ⊖ p)) ⊘ (root_of (v ⊘ (d1 ⊖ q)) ⊕ epsilon)

-- what a fit keeps from step to step: both moments and the weights, 779 each
pub record Fit : Type 0 where
  pub m : List Float
  pub v : List Float
  pub weights : List Float

-- a list of 779 by a rule for each place, "pawn never moves": place 0 is as it was
abbrev pub ruled : List Float → (ℕ → Float) → ℕ → Float
ruled old rule i = cond (eqb i 0) (get_or old 0 nan) (rule i)

unfoldable pub but_pawn : List Float → (ℕ → Float) → List Float
unfolding tabulate
but_pawn old rule = tabulate 779 (ruled old rule)

-- what stands at place i after a step; the weight takes the new moments
abbrev pub first_at : List Float → Fit → ℕ → Float
first_at g s i = first_moment (get_or s.m i nan) (get_or g i nan)

abbrev pub second_at : List Float → Fit → ℕ → Float
second_at g s i = second_moment (get_or s.v i nan) (get_or g i nan)

abbrev pub weight_stepped : Float → Float → Float → List Float → Fit → ℕ → Float
weight_stepped p q rate g s i = weight_moved p q rate (first_at g s i) (second_at g s i) (get_or s.weights i nan)

abbrev pub stepped : Float → Float → Float → List Float → Fit → Fit
stepped p q rate g s = record {
  m = but_pawn s.m (first_at g s);
  v = but_pawn s.v (second_at g s);
  weights = but_pawn s.weights (weight_stepped p q rate g s);
}
