-- A test that antt computes over a range, and the fact at each number; a loop that tries 0, 1, .. in turn; two lists compared.
-- Assumes nothing.
use mathlib.Core.Path.{◌≡◌, refl, sym, ap₂, subst}
use mathlib.Core.Logic.{⊎_elim}
use mathlib.Core.Bool.{Bool, true, ◌&&◌}
use mathlib.Core.List.{List, [], ◌∷◌}
use Prim.Native.Nat.{ℕ, zero, suc, ◌<◌, ◌≤◌, zero-le}
use native.Mathlib.Nat.{not-suc-le-zero, le-suc_iff, suc_inj}
use native.Mathlib.Omega.{arith}
use lib.Dec.{T, eqb, leb, eqb→eq, leb→le}
use lib.ListN.{get_or}
use Rattle.laws.specs.Tests.{all_below, all_below2}
pub use Rattle.laws.specs.Tests.{same}
use Rattle.laws.proofs.Truth.{and_l, and_r, and_i, iff}

-- ---- all numbers below n
pub all_at : (n : ℕ) (f : ℕ → Bool) → T (all_below n f) → (k : ℕ) → k < n → T (f k)
unfolding all_below
all_at zero f t k h = absurd (not-suc-le-zero h)
all_at (suc n) f t k h =
    ⊎_elim (λ l. all_at n f (and_r (f n) (all_below n f) t) k l)
    (λ e. subst (λ (m : ℕ). T (f m)) (sym (suc_inj e)) (and_l (f n) (all_below n f) t)) (le-suc_iff.0 h)

pub all_of : (n : ℕ) (f : ℕ → Bool) → ((k : ℕ) → k < n → T (f k)) → T (all_below n f)
unfolding all_below
all_of zero f h = tt
all_of (suc n) f h = and_i (f n) (all_below n f) (h n (omega arith)) (all_of n f (λ k l. h k (omega arith)))

pub all_and : (n : ℕ) (f g : ℕ → Bool) → all_below n (λ k. f k && g k) ≡ (all_below n f && all_below n g)
all_and n f g = iff (all_below n both) (all_below n f && all_below n g) there back
  where
    both : ℕ → Bool
    both k = f k && g k

    there : T (all_below n both) → T (all_below n f && all_below n g)
    there t = and_i (all_below n f) (all_below n g) (all_of n f (λ k h. and_l (f k) (g k) (all_at n both t k h)))
        (all_of n g (λ k h. and_r (f k) (g k) (all_at n both t k h)))

    back : T (all_below n f && all_below n g) → T (all_below n both)
    back t = all_of n both (λ k h. and_i (f k) (g k) (all_at n f (and_l (all_below n f) (all_below n g) t) k h)
        (all_at n g (and_r (all_below n f) (all_below n g) t) k h))

pub all_same : (n : ℕ) (f g : ℕ → Bool) → ((k : ℕ) → k < n → f k ≡ g k) → all_below n f ≡ all_below n g
all_same n f g h =
    iff (all_below n f) (all_below n g)
    (λ t. all_of n g (λ k l. subst T (h k l) (all_at n f t k l)))
    (λ t. all_of n f (λ k l. subst T (sym (h k l)) (all_at n g t k l)))

-- ---- all pairs
pub all2_at : (m n : ℕ) (f : ℕ → ℕ → Bool) → T (all_below2 m n f) → (i j : ℕ) → i < m → j < n → T (f i j)
unfolding all_below2
all2_at m n f t i j hi hj = all_at n (f i) (all_at m (λ e. all_below n (f e)) t i hi) j hj

-- ---- two lists, number by number
pub is_same : (xs ys : List ℕ) → T (same xs ys) → xs ≡ ys
is_same [] [] t = refl
is_same [] (y ∷ ys) t = absurd t
is_same (x ∷ xs) [] t = absurd t
is_same (x ∷ xs) (y ∷ ys) t =
    ap₂ (λ (a : ℕ) (l : List ℕ). a ∷ l) (eqb→eq x y (and_l (eqb x y) (same xs ys) t)) (is_same xs ys (and_r (eqb x y) (same xs ys) t))

-- ---- no entry of a list is above m; past its end stands 0
abbrev pub all_le : ℕ → List ℕ → Bool
all_le m [] = true
all_le m (x ∷ xs) = leb x m && all_le m xs

pub entry_le : (m : ℕ) (l : List ℕ) → T (all_le m l) → (k : ℕ) → get_or l k 0 ≤ m
entry_le m [] t k = zero-le
entry_le m (x ∷ xs) t zero = leb→le x m (and_l (leb x m) (all_le m xs) t)
entry_le m (x ∷ xs) t (suc k) = entry_le m xs (and_r (leb x m) (all_le m xs) t) k
