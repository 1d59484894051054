-- Laws of whole numbers that sums need: four terms in another order, products over sums, a difference turned round, and a number that counts
-- or does not. Assumes nothing.
use mathlib.Core.Path.{◌≡◌, refl, sym, ap, ap₂, ◌∙◌}
use mathlib.Core.Bool.{Bool, true, false}
use Prim.Native.Nat.{ℕ, zero, suc, ◌+◌, ◌*◌}
use native.Mathlib.Nat.{add-mul, one-mul}
use lib.IntN.{ℤ, pos, negsuc, neg_ℤ, neg_ℤ-neg_ℤ, neg_ℤ-+ℤ, ◌+ℤ◌, ◌-ℤ◌, ◌*ℤ◌, +ℤ_assoc, +ℤ_comm, *ℤ-zero, *ℤ-negsuc, zero-*ℤ}
use Rattle.laws.proofs.Diff.{above_zero_rule, below_zero, diff_of, diff_add, diff_scale, diff_eq}

pub cross : (a b c d : ℤ) → (a +ℤ b) +ℤ (c +ℤ d) ≡ (a +ℤ c) +ℤ (b +ℤ d)
cross a b c d =
    +ℤ_assoc a b (c +ℤ d)
    ∙ ap (λ (x : ℤ). a +ℤ x) (sym (+ℤ_assoc b c d) ∙ ap (λ (x : ℤ). x +ℤ d) (+ℤ_comm b c) ∙ +ℤ_assoc c b d)
    ∙ sym (+ℤ_assoc a c (b +ℤ d))

times_pos : (a b : ℤ) (n : ℕ) → (a +ℤ b) *ℤ pos n ≡ a *ℤ pos n +ℤ b *ℤ pos n
times_pos a b n =
    diff_eq ((a +ℤ b) *ℤ pos n) (a *ℤ pos n +ℤ b *ℤ pos n)
    ((above_zero_rule a + above_zero_rule b) * n) ((below_zero a + below_zero b) * n) (above_zero_rule a * n + above_zero_rule b * n) (below_zero a * n + below_zero b * n)
    (diff_scale (a +ℤ b) n (above_zero_rule a + above_zero_rule b) (below_zero a + below_zero b)
    (diff_add a b (above_zero_rule a) (below_zero a) (above_zero_rule b) (below_zero b) (diff_of a) (diff_of b)))
    (diff_add (a *ℤ pos n) (b *ℤ pos n) (above_zero_rule a * n) (below_zero a * n) (above_zero_rule b * n) (below_zero b * n)
    (diff_scale a n (above_zero_rule a) (below_zero a) (diff_of a)) (diff_scale b n (above_zero_rule b) (below_zero b) (diff_of b)))
    (ap₂ ◌+◌ (add-mul (above_zero_rule a) (above_zero_rule b) n) (sym (add-mul (below_zero a) (below_zero b) n)))

pub times : (a b k : ℤ) → (a +ℤ b) *ℤ k ≡ a *ℤ k +ℤ b *ℤ k
times a b (pos n) = times_pos a b n
times a b (negsuc n) =
    *ℤ-negsuc (a +ℤ b) n ∙ ap neg_ℤ (times_pos a b (suc n)) ∙ neg_ℤ-+ℤ (a *ℤ pos (suc n)) (b *ℤ pos (suc n))
    ∙ sym (ap₂ ◌+ℤ◌ (*ℤ-negsuc a n) (*ℤ-negsuc b n))

pub once : (z : ℤ) → pos 1 *ℤ z ≡ z
once (pos n) = ap pos (one-mul n)
once (negsuc n) = ap (λ (m : ℕ). neg_ℤ (pos m)) (one-mul (suc n))

-- a difference turned round, by itself, in a product, and in a sum of two products
pub times_neg : (y z : ℤ) → y *ℤ neg_ℤ z ≡ neg_ℤ (y *ℤ z)
times_neg y (pos zero) = *ℤ-zero y ∙ ap neg_ℤ (sym (*ℤ-zero y))
times_neg y (pos (suc n)) = *ℤ-negsuc y n
times_neg y (negsuc n) = sym (ap neg_ℤ (*ℤ-negsuc y n) ∙ neg_ℤ-neg_ℤ (y *ℤ pos (suc n)))

pub minus_turned : (a b : ℤ) → a -ℤ b ≡ neg_ℤ (b -ℤ a)
minus_turned a b = +ℤ_comm a (neg_ℤ b) ∙ ap (λ (x : ℤ). neg_ℤ b +ℤ x) (sym (neg_ℤ-neg_ℤ a)) ∙ sym (neg_ℤ-+ℤ b (neg_ℤ a))

pub times_turned : (y a b : ℤ) → y *ℤ (a -ℤ b) ≡ neg_ℤ (y *ℤ (b -ℤ a))
times_turned y a b = ap (λ (x : ℤ). y *ℤ x) (minus_turned a b) ∙ times_neg y (b -ℤ a)

pub products_turned : (y z a b c d : ℤ) → y *ℤ (a -ℤ b) +ℤ z *ℤ (c -ℤ d) ≡ neg_ℤ (y *ℤ (b -ℤ a) +ℤ z *ℤ (d -ℤ c))
products_turned y z a b c d = ap₂ ◌+ℤ◌ (times_turned y a b) (times_turned z c d) ∙ sym (neg_ℤ-+ℤ (y *ℤ (b -ℤ a)) (z *ℤ (d -ℤ c)))

-- a number, or none
abbrev pub gated : Bool → ℤ → ℤ
gated true z = z
gated false z = pos 0

pub gate_plus : (t : Bool) (a b j k : ℤ) → gated t (a *ℤ j +ℤ b *ℤ k) ≡ gated t a *ℤ j +ℤ gated t b *ℤ k
gate_plus true a b j k = refl
gate_plus false a b j k = sym (ap₂ ◌+ℤ◌ (zero-*ℤ j) (zero-*ℤ k))
