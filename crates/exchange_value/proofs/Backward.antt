-- The exchange from the last capture back, over ℕ: what the next capture is worth, or 0 where it does not pay. Assumes nothing.
use mathlib.Core.Path.{◌≡◌, refl, sym, ap, ap₂, ◌∙◌}
use mathlib.Core.List.{List, [], ◌∷◌}
use Prim.Native.Nat.{ℕ, suc, ◌+◌, ◌-◌, ◌≤◌, ◌<◌}
use native.Mathlib.Nat.{add-zero}
use native.Mathlib.Omega.{arith}
use lib.IntN.{ℤ, pos, negsuc, ◌-ℤ◌}
use lib.ListN.{length, get_or, drop, drop_of_length-le}
use lib.Seq.{drop-cons}
use mir.Syntax.{w32}
use mir.Val.{SFits, to_z, of_z}
use mir.Facts.{to_z-of_z}
use Rattle.laws.proofs.Words.{fits_abs}
use Rattle.laws.proofs.Diff.{above_zero_rule, diff_pos, diff_minus, diff_up, abs_minus}
use Rattle.exchange_value.specs.Settled.{settled, or_zero}

-- the rule with no case for the last capture
pub settled_cons : (v : ℕ) (vs : List ℕ) → settled (v ∷ vs) ≡ pos v -ℤ or_zero (settled vs)
unfolding settled
settled_cons v [] = ap pos (sym (add-zero v))
settled_cons v (w ∷ vs) = refl

or_up : (z : ℤ) → or_zero z ≡ pos (above_zero_rule z)
or_up (pos n) = refl
or_up (negsuc n) = refl

pub settled_up : (v : ℕ) (vs : List ℕ) → settled (v ∷ vs) ≡ pos v -ℤ pos (above_zero_rule (settled vs))
settled_up v vs = settled_cons v vs ∙ ap (λ (z : ℤ). pos v -ℤ z) (or_up (settled vs))

pub up_cons : (v : ℕ) (vs : List ℕ) → above_zero_rule (settled (v ∷ vs)) ≡ v - above_zero_rule (settled vs)
up_cons v vs =
    let u : ℕ = above_zero_rule (settled vs) in
    ap above_zero_rule (settled_up v vs) ∙ diff_up (pos v -ℤ pos u) (v + 0) (0 + u) (diff_minus (pos v) (pos u) v 0 u 0 (diff_pos v) (diff_pos u)) ∙ omega arith

-- what the captures from k on are worth to the side that makes the first of them, if it need not
abbrev pub gain : List ℕ → ℕ → ℕ
gain vs k = above_zero_rule (settled (drop k vs))

pub no_gain : (vs : List ℕ) → 0 ≡ gain vs (length vs)
unfolding settled
no_gain vs = sym (ap (λ (l : List ℕ). above_zero_rule (settled l)) (drop_of_length-le vs {i = length vs} (omega arith)))

-- one capture back, as the code counts
module _ (vs : List ℕ) (k : ℕ) (one : 1 ≤ k) (below : k ≤ length vs) where
  pub front : drop (k - 1) vs ≡ get_or vs (k - 1) 0 ∷ drop k vs
  front = let e : suc (k - 1) ≡ k = omega arith in drop-cons vs (k - 1) 0 (omega arith) ∙ ap (λ (j : ℕ). get_or vs (k - 1) 0 ∷ drop j vs) e

  pub back : (v next : ℕ) → v ≡ get_or vs (k - 1) 0 → next ≡ gain vs k → v - next ≡ gain vs (k - 1)
  back v next ev en = ap₂ (λ (x y : ℕ). x - y) ev en ∙ sym (ap (λ (l : List ℕ). above_zero_rule (settled l)) front ∙ up_cons (get_or vs (k - 1) 0) (drop k vs))

-- ---- in 32 bits
small : (n : ℕ) → n ≤ 65535 → to_z w32 n ≡ pos n
small n h = to_z-of_z {w = w32} {z = pos n} (fits_abs {w = w32} 65535 tt h)

pub in_32 : (a b : ℕ) → a ≤ 65535 → b ≤ 65535 → SFits w32 (to_z w32 a -ℤ to_z w32 b)
in_32 a b h l = rw (small a h, small b l) (fits_abs {w = w32} 131070 tt (abs_minus (pos a) (pos b) 65535 65535 h l))

pub whole : (vs : List ℕ) (v next : ℕ) → 0 < length vs → v ≤ 65535 → next ≤ 65535 → v ≡ get_or vs 0 0 → next ≡ gain vs 1
    → to_z w32 (of_z w32 (to_z w32 v -ℤ to_z w32 next)) ≡ settled vs
whole [] v next some hv hn ev en = absurd (omega arith)
whole (x ∷ vs) v next some hv hn ev en =
    to_z-of_z {w = w32} (in_32 v next hv hn)
    ∙ ap₂ ◌-ℤ◌ (small v hv ∙ ap pos ev) (small next hn ∙ ap pos en)
    ∙ sym (settled_up x vs)

pub settled_none : (vs : List ℕ) → length vs ≡ 0 → pos 0 ≡ settled vs
unfolding settled
settled_none [] e = refl
settled_none (v ∷ vs) e = absurd (omega arith)

-- S(0) is no farther from zero than the values
pub up_le : (v : ℕ) (vs : List ℕ) → above_zero_rule (settled (v ∷ vs)) ≤ v
up_le v vs = omega (arith, up_cons v vs)
