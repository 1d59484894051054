-- A sum of two numbers tested without its being made. Assumes nothing.
use mathlib.Core.Path.{◌≡◌, refl, sym, ◌∙◌}
use mathlib.Core.Bool.{Bool, true, false}
use Prim.Native.Nat.{ℕ, ◌+◌, ◌-◌, ◌<◌, ◌≤◌}
use native.Mathlib.Omega.{arith}
use lib.Dec.{ltb}
use borrow.Author.Tests.{ltb-true, ltb-false, lt-ltb, le-ltb}

pub by_difference : (a b most : ℕ) → a ≤ most → ltb (most - a) b ≡ ltb most (a + b)
by_difference a b most h = go (ltb most (a + b)) refl
  where
    go : (t : Bool) → ltb most (a + b) ≡ t → ltb (most - a) b ≡ t
    go true e = let k = ltb-true most (a + b) e in lt-ltb (most - a) b (omega arith)
    go false e = let k = ltb-false most (a + b) e in le-ltb (most - a) b (omega arith)

-- what the code's answer says of the sum
pub is_past : {t : Bool} (most s : ℕ) → t ≡ ltb most s → t ≡ true → most < s
is_past most s e q = ltb-true most s (sym e ∙ q)

pub not_past : {t : Bool} (most s : ℕ) → t ≡ ltb most s → t ≡ false → s ≤ most
not_past most s e q = ltb-false most s (sym e ∙ q)
