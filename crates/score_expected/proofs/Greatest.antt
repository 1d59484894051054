-- The greatest number of a test, found digit by digit: the test holds of it and not of the next one. Assumes nothing.
use mathlib.Core.Path.{◌≡◌, refl, subst}
use mathlib.Core.Bool.{Bool, true, false, cond}
use Prim.Native.Nat.{ℕ, zero, suc, ◌+◌, ◌^◌}
use native.Mathlib.Nat.{two-pow-succ}
use native.Mathlib.Omega.{arith}
use Rattle.score_expected.specs.Expected.{greatest}

-- one digit: the test holds of the number so far, and fails as far above it as the digits that are left reach
picked : (f : ℕ → Bool) (a b : ℕ) → f a ≡ true → f (cond (f b) b a) ≡ true
picked f a b e = go (f b) refl
  where
    go : (t : Bool) → f b ≡ t → f (cond t b a) ≡ true
    go true q = q
    go false q = e

failed : (f : ℕ → Bool) (a m : ℕ) → f (a + m + m) ≡ false → f (cond (f (a + m)) (a + m) a + m) ≡ false
failed f a m e = go (f (a + m)) refl
  where
    go : (t : Bool) → f (a + m) ≡ t → f (cond t (a + m) a + m) ≡ false
    go true q = e
    go false q = q

pub greatest_holds : (n : ℕ) (f : ℕ → Bool) (a : ℕ) → f a ≡ true → f (greatest n f a) ≡ true
unfolding greatest
greatest_holds zero f a e = e
greatest_holds (suc n) f a e = greatest_holds n f (cond (f (a + 2 ^ n)) (a + 2 ^ n) a) (picked f a (a + 2 ^ n) e)

pub greatest_breaks : (n : ℕ) (f : ℕ → Bool) (a : ℕ) → f (a + 2 ^ n) ≡ false → f (greatest n f a + 1) ≡ false
unfolding greatest
greatest_breaks zero f a e = e
greatest_breaks (suc n) f a e =
    let twice : a + 2 ^ suc n ≡ a + 2 ^ n + 2 ^ n = omega (arith, two-pow-succ n) in
    greatest_breaks n f (cond (f (a + 2 ^ n)) (a + 2 ^ n) a) (failed f a (2 ^ n) (subst (λ (b : ℕ). f b ≡ false) twice e))
