-- The sum over the entries, one after the other: three roundings for each entry of 1, none for an entry of 0. Assumes nothing.
use mathlib.Core.Path.{◌≡◌, sym, subst}
use mathlib.Core.List.{List}
use Prim.Native.Nat.{ℕ, zero, suc, ◌≤◌, ◌<◌}
use native.Mathlib.Omega.{arith}
use lib.IntN.{ℤ, pos, ◌+ℤ◌, +ℤ_idr, +ℤ_assoc}
use lib.ListN.{get_or}
use lib.Ieee.{Float}
use Rattle.laws.specs.Sums.{sum_n, sum_z}
use Rattle.trace_shipped.specs.Weights.{shipped_squares}
use Rattle.trace_double.specs.Double.{folded}
use Rattle.trace_rounding.proofs.Doubles.{Exactly}
use Rattle.trace_stray.proofs.Squares.{placed, Sum, step}

module _ (x : Float) (z : ℤ) (f : ℕ → ℕ) (count : Exactly x z 64) (ones : (k : ℕ) → f k ≤ 1) where
  -- the first n entries, where entry k is f k
  pub folded_sum : (entries : List ℤ) {s : Float} {w : ℤ} (n : ℕ) → ((k : ℕ) → k < 768 → get_or entries k (pos 0) ≡ pos (f k)) → n ≤ 768 → sum_n n f ≤ 768
      → Sum s w 0
      → Sum (folded shipped_squares x entries s n) (w +ℤ sum_z n (λ k. placed z k (get_or entries k (pos 0)))) (sum_n n f)
  unfolding folded sum_n sum_z
  folded_sum entries {s} {w} zero h m l p = subst (λ (i : ℤ). Sum s i 0) (sym (+ℤ_idr w)) p
  folded_sum entries {s} {w} (suc n) h m l p =
      rw (h n (omega arith), sym (+ℤ_assoc w (sum_z n (λ k. placed z k (get_or entries k (pos 0)))) (placed z n (pos (f n)))))
      (step x z (sum_n n f) n (f n) count (omega arith) (ones n) l (folded_sum entries n h (omega arith) (omega arith) p))
