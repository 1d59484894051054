-- Laws of sums of whole numbers: term by term, from the front, in blocks, the last term first. Assumes nothing.
use mathlib.Core.Path.{◌≡◌, refl, sym, ap, ap₂, ◌∙◌}
use Prim.Native.Nat.{ℕ, zero, suc, ◌+◌, ◌*◌, ◌-◌}
use native.Mathlib.Nat.{add-zero, add-suc, mul-zero, mul-suc, sub-zero, suc-sub-suc}
use native.Mathlib.Omega.{arith}
use lib.IntN.{ℤ, pos, neg_ℤ, neg_ℤ-+ℤ, ◌+ℤ◌, ◌-ℤ◌, ◌*ℤ◌, +ℤ_assoc, +ℤ_comm, +ℤ_idr, zero-*ℤ}
use Rattle.laws.specs.Sums.{sum_n, sum_z}
use Rattle.laws.proofs.Diff.{Diff, diff_pos, diff_add, diff_minus, diff_scale, diff_swap}
use Rattle.laws.proofs.Sums.{whole_same}
use Rattle.laws.proofs.Whole.{cross, times}

pub sum_plus : (n : ℕ) (f g : ℕ → ℤ) → sum_z n (λ k. f k +ℤ g k) ≡ sum_z n f +ℤ sum_z n g
unfolding sum_z
sum_plus zero f g = refl
sum_plus (suc n) f g = ap (λ (x : ℤ). x +ℤ (f n +ℤ g n)) (sum_plus n f g) ∙ cross (sum_z n f) (sum_z n g) (f n) (g n)

sum_neg : (n : ℕ) (f : ℕ → ℤ) → sum_z n (λ k. neg_ℤ (f k)) ≡ neg_ℤ (sum_z n f)
unfolding sum_z
sum_neg zero f = refl
sum_neg (suc n) f = ap (λ (x : ℤ). x +ℤ neg_ℤ (f n)) (sum_neg n f) ∙ sym (neg_ℤ-+ℤ (sum_z n f) (f n))

pub sum_minus : (n : ℕ) (f g : ℕ → ℤ) → sum_z n (λ k. f k -ℤ g k) ≡ sum_z n f -ℤ sum_z n g
sum_minus n f g = sum_plus n f (λ k. neg_ℤ (g k)) ∙ ap (λ (x : ℤ). sum_z n f +ℤ x) (sum_neg n g)

pub sum_times : (n : ℕ) (f : ℕ → ℤ) (z : ℤ) → sum_z n (λ k. f k *ℤ z) ≡ sum_z n f *ℤ z
unfolding sum_z
sum_times zero f z = sym (zero-*ℤ z)
sum_times (suc n) f z = ap (λ (x : ℤ). x +ℤ f n *ℤ z) (sum_times n f z) ∙ sym (times (sum_z n f) (f n) z)

-- the first term apart
pub sum_front : (n : ℕ) (f : ℕ → ℤ) → sum_z (suc n) f ≡ f 0 +ℤ sum_z n (λ k. f (suc k))
unfolding sum_z
sum_front zero f = +ℤ_comm (pos 0) (f 0)
sum_front (suc n) f = ap (λ (x : ℤ). x +ℤ f (suc n)) (sum_front n f) ∙ +ℤ_assoc (f 0) (sum_z n (λ k. f (suc k))) (f (suc n))

-- m terms, and then n
sum_split : (m n : ℕ) (f : ℕ → ℤ) → sum_z (m + n) f ≡ sum_z m f +ℤ sum_z n (λ k. f (m + k))
unfolding sum_z
sum_split m zero f = ap (λ (k : ℕ). sum_z k f) (add-zero m) ∙ sym (+ℤ_idr (sum_z m f))
sum_split m (suc n) f = ap (λ (k : ℕ). sum_z k f) (add-suc m n) ∙ ap (λ (x : ℤ). x +ℤ f (m + n)) (sum_split m n f)
    ∙ +ℤ_assoc (sum_z m f) (sum_z n (λ k. f (m + k))) (f (m + n))

-- n blocks of m terms
pub sum_blocks : (m n : ℕ) (f : ℕ → ℤ) → sum_z (m * n) f ≡ sum_z n (λ r. sum_z m (λ j. f (m * r + j)))
unfolding sum_z
sum_blocks m zero f = ap (λ (k : ℕ). sum_z k f) (mul-zero m)
sum_blocks m (suc n) f =
    ap (λ (k : ℕ). sum_z k f) (mul-suc m n) ∙ sum_split (m * n) m f ∙ ap (λ (x : ℤ). x +ℤ sum_z m (λ j. f (m * n + j))) (sum_blocks m n f)

-- the last term first
pub sum_back : (n : ℕ) (f : ℕ → ℤ) → sum_z (suc n) (λ k. f (n - k)) ≡ sum_z (suc n) f
unfolding sum_z
sum_back zero f = refl
sum_back (suc n) f =
    sum_front (suc n) (λ k. f (suc n - k))
    ∙ ap₂ ◌+ℤ◌ (ap f (sub-zero (suc n))) (whole_same (suc n) (λ k. f (suc n - suc k)) (λ k. f (n - k)) (λ k l. ap f (suc-sub-suc n k)) ∙ sum_back n f)
    ∙ +ℤ_comm (f (suc n)) (sum_z (suc n) f)

-- a difference of two numbers
pub diff_of_two : (a b : ℕ) → Diff (pos a -ℤ pos b) a b
diff_of_two a b = diff_swap (pos a -ℤ pos b) (a + 0) (0 + b) a b (diff_minus (pos a) (pos b) a 0 b 0 (diff_pos a) (diff_pos b)) (omega arith)

-- weighted differences, as a difference of two weighted sums
pub diff_weighed : (n : ℕ) (f g v : ℕ → ℕ)
    → Diff (sum_z n (λ k. (pos (f k) -ℤ pos (g k)) *ℤ pos (v k))) (sum_n n (λ k. f k * v k)) (sum_n n (λ k. g k * v k))
unfolding sum_z sum_n
diff_weighed zero f g v = omega arith
diff_weighed (suc n) f g v =
    diff_add (sum_z n (λ k. (pos (f k) -ℤ pos (g k)) *ℤ pos (v k))) ((pos (f n) -ℤ pos (g n)) *ℤ pos (v n))
    (sum_n n (λ k. f k * v k)) (sum_n n (λ k. g k * v k)) (f n * v n) (g n * v n) (diff_weighed n f g v)
    (diff_scale (pos (f n) -ℤ pos (g n)) (v n) (f n) (g n) (diff_of_two (f n) (g n)))
