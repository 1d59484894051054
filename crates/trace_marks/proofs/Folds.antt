-- A fold over numbers in a row, cut into groups of sixteen: where a number changes nothing it may be passed over. Assumes nothing.
use mathlib.Core.Path.{◌≡◌, refl, sym, ap, ap₂, ◌∙◌}
use Prim.Native.Nat.{ℕ, zero, suc, ◌+◌, ◌*◌, ◌<◌}
use native.Mathlib.Omega.{arith}
use native.Mathlib.Nat.{add_assoc}
use Rattle.trace_marks.specs.Marks.{fold_from}

module _ {A : Type 0} (step : A → ℕ → A) where
  pub none_yet : (start : A) (k : ℕ) → start ≡ fold_from step start k 0
  unfolding fold_from
  none_yet start k = refl

  pub one_more : (start : A) (k j : ℕ) {here now : A} → here ≡ fold_from step start k j → now ≡ step here (k + j) → now ≡ fold_from step start k (suc j)
  unfolding fold_from
  one_more start k j e p = p ∙ ap (λ (x : A). step x (k + j)) e

  pub one_still : (start : A) (k j : ℕ) → ((x : A) → step x (k + j) ≡ x) → fold_from step start k j ≡ fold_from step start k (suc j)
  unfolding fold_from
  one_still start k j z = sym (z (fold_from step start k j))

  pub all_still : (start : A) (k n : ℕ) → ((j : ℕ) → j < n → (x : A) → step x (k + j) ≡ x) → start ≡ fold_from step start k n
  unfolding fold_from
  all_still start k zero z = refl
  all_still start k (suc n) z = all_still start k n (λ j h. z j (omega arith)) ∙ one_still start k n (z n (omega arith))

  join : (start : A) (k m n : ℕ) → fold_from step (fold_from step start k m) (k + m) n ≡ fold_from step start k (m + n)
  unfolding fold_from
  join start k m zero = ap (fold_from step start k) (let q : m ≡ m + 0 = omega arith in q)
  join start k m (suc n) = ap₂ step (join start k m n) (add_assoc k m n) ∙ ap (fold_from step start k) (let q : suc (m + n) ≡ m + suc n = omega arith in q)

  -- a group more
  pub group_more : (start : A) (g : ℕ) → fold_from step (fold_from step start 0 (16 * g)) (16 * g) 16 ≡ fold_from step start 0 (16 * suc g)
  group_more start g =
      ap (λ (k : ℕ). fold_from step (fold_from step start 0 (16 * g)) k 16) (let q : 16 * g ≡ 0 + 16 * g = omega arith in q)
      ∙ join start 0 (16 * g) 16
      ∙ ap (fold_from step start 0) (let q : 16 * g + 16 ≡ 16 * suc g = omega arith in q)
