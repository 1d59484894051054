-- Whether a test holds somewhere; a bitboard that is not empty has a square. Assumes nothing.
use mathlib.Core.Path.{◌≡◌, refl, sym, ap, ap₂, ◌∙◌}
use mathlib.Core.Logic.{⊎_elim}
use mathlib.Core.Bool.{Bool, true, false, true≢false, not, ◌||◌, ◌&&◌}
use Prim.Native.Nat.{ℕ, zero, suc, ◌^◌, ◌<◌}
use native.Mathlib.Nat.{not-suc-le-zero, le-suc_iff, suc_inj}
use native.Mathlib.Omega.{arith}
use lib.Dec.{T, eqb}
use lib.Bits.{and_lt, bit_and}
use borrow.Author.Tests.{eqb-true, eqb-false}
use Rattle.laws.proofs.Truth.{or_l, or_r, true_T}
use Rattle.bits.specs.Bitboard.{has, some}
use Rattle.bits.proofs.Digits.{has_and, has_zero, ext}

-- ---- a test that holds nowhere, and one that holds at k
pub some_none : (n : ℕ) (f : ℕ → Bool) → some n f ≡ false → (k : ℕ) → k < n → f k ≡ false
unfolding some
some_none zero f e k h = absurd (not-suc-le-zero h)
some_none (suc n) f e k h =
    ⊎_elim (λ l. some_none n f (right (f n) (some n f) e) k l) (λ q. ap f (suc_inj q) ∙ left (f n) (some n f) e) (le-suc_iff.0 h)
  where
    left : (a b : Bool) → (a || b) ≡ false → a ≡ false
    left true b q = q
    left false b q = refl

    right : (a b : Bool) → (a || b) ≡ false → b ≡ false
    right true b q = absurd (true≢false q)
    right false b q = q

some_zero : (n : ℕ) → some n (has 0) ≡ false
unfolding some
some_zero zero = refl
some_zero (suc n) = ap₂ (λ (a b : Bool). a || b) (has_zero n) (some_zero n)

pub some_same : (n : ℕ) (f g : ℕ → Bool) → ((k : ℕ) → k < n → f k ≡ g k) → some n f ≡ some n g
unfolding some
some_same zero f g e = refl
some_same (suc n) f g e = ap₂ (λ (a b : Bool). a || b) (e n (omega arith)) (some_same n f g (λ k l. e k (omega arith)))

-- `a != 0`
pub is_some : (a : ℕ) → a < 2 ^ 64 → not (eqb a 0) ≡ some 64 (has a)
is_some a h = go (some 64 (has a)) refl (eqb a 0) refl
  where
    go : (t : Bool) → some 64 (has a) ≡ t → (z : Bool) → eqb a 0 ≡ z → not (eqb a 0) ≡ some 64 (has a)
    go true e true q = absurd (true≢false (sym e ∙ ap (λ (x : ℕ). some 64 (has x)) (eqb-true a 0 q) ∙ some_zero 64))
    go true e false q = ap not q ∙ sym e
    go false e true q = ap not q ∙ sym e
    go false e false q = absurd (eqb-false a 0 q (ext 64 a 0 h (omega arith) (λ k l. some_none 64 (has a) e k l ∙ sym (has_zero k))))

-- `a & b != 0`: some square stands in both
pub meet : (a b : ℕ) → a < 2 ^ 64 → b < 2 ^ 64 → not (eqb (bit_and a b) 0) ≡ some 64 (λ k. has a k && has b k)
meet a b ha hb = is_some (bit_and a b) (and_lt 64 a b ha hb) ∙ some_same 64 (has (bit_and a b)) (λ k. has a k && has b k) (λ k h. has_and a b k)

pub some_at : (n : ℕ) (f : ℕ → Bool) (k : ℕ) → k < n → T (f k) → T (some n f)
unfolding some
some_at zero f k h t = absurd (not-suc-le-zero h)
some_at (suc n) f k h t =
    ⊎_elim (λ l. or_r (f n) (some n f) (some_at n f k l t))
    (λ e. or_l (f n) (some n f) (true_T (ap f (sym (suc_inj e)) ∙ Rattle.laws.proofs.Truth.T_true (f k) t)))
    (le-suc_iff.0 h)

-- a number for which the test holds
pub record Somewhere (n : ℕ) (f : ℕ → Bool) : Type 0 where
  pub at : ℕ
  pub below : at < n
  pub holds : f at ≡ true

pub some_where : (n : ℕ) (f : ℕ → Bool) → some n f ≡ true → Somewhere n f
unfolding some
some_where zero f e = absurd (true≢false (sym e))
some_where (suc n) f e = go (f n) refl (some_where n f)
  where
    later : Somewhere n f → Somewhere (suc n) f
    later s = record { at = s.at; below = let l = s.below in omega arith; holds = s.holds }

    go : (t : Bool) → f n ≡ t → (some n f ≡ true → Somewhere n f) → Somewhere (suc n) f
    go true q below = record { at = n; below = omega arith; holds = q }
    go false q below = later (below (ap (λ (t : Bool). t || some n f) (sym q) ∙ e))
