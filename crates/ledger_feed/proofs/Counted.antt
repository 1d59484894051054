-- How lines are counted. Assumes nothing.
use mathlib.Core.Path.{◌≡◌, refl, sym}
use mathlib.Core.Bool.{Bool, true, false, cond, not}
use Prim.Native.Nat.{ℕ, ◌+◌, ◌-◌, ◌^◌, ◌≤◌, ◌<◌}
use native.Mathlib.Omega.{arith}
use lib.Dec.{leb, ltb}
use mir.Val.{bool_byte}
use borrow.Author.Tests.{lt-ltb, le-ltb, leb-true, leb-false}
use Rattle.ledger_feed.specs.Machine.{tally}

-- whether a sum of three is below 2^64, as the code asks it
pub count_many : (a b c : ℕ) → a < 2 ^ 64 → 2 ^ 64 - 1 - a < b → false ≡ ltb (a + b + c) (2 ^ 64)
count_many a b c h k = sym (le-ltb (a + b + c) (2 ^ 64) (omega arith))

pub count_fits : (a b c : ℕ) → a < 2 ^ 64 → b ≤ 2 ^ 64 - 1 - a → leb c (2 ^ 64 - 1 - a - b) ≡ ltb (a + b + c) (2 ^ 64)
count_fits a b c h k = go (leb c (2 ^ 64 - 1 - a - b)) refl
  where
    go : (t : Bool) → leb c (2 ^ 64 - 1 - a - b) ≡ t → t ≡ ltb (a + b + c) (2 ^ 64)
    go true e = let q = leb-true c (2 ^ 64 - 1 - a - b) e in sym (lt-ltb (a + b + c) (2 ^ 64) (omega arith))
    go false e = let q = leb-false c (2 ^ 64 - 1 - a - b) e in sym (le-ltb (a + b + c) (2 ^ 64) (omega arith))

-- a test as the number that the code adds
pub number_most : (t : Bool) → bool_byte t ≤ 1
number_most true = omega arith
number_most false = omega arith

pub tally_number : (t : Bool) (n : ℕ) → n + bool_byte t ≡ tally n t
tally_number true n = refl
tally_number false n = omega arith

-- one line more, loaded or refused
pub tally_both : (t : Bool) (loaded refused : ℕ) → tally loaded t + tally refused (not t) ≡ loaded + refused + 1
tally_both true loaded refused = omega arith
tally_both false loaded refused = omega arith

-- a line more, and those after it
pub loaded_more : (t : Bool) (n k : ℕ) → tally n t + k ≡ n + (cond t 1 0 + k)
loaded_more true n k = omega arith
loaded_more false n k = omega arith

pub refused_more_holds : (t : Bool) (n k : ℕ) → tally n (not t) + k ≡ n + (cond t 0 1 + k)
refused_more_holds true n k = omega arith
refused_more_holds false n k = omega arith
