-- A number tested against a bound: both answers. Assumes nothing.
use mathlib.Core.Path.{◌≡◌, sym, ap}
use mathlib.Core.Bool.{Bool}
use Prim.Native.Nat.{ℕ, ◌<◌, ◌≤◌}
use borrow.Author.Tests.{lt-ltb, le-ltb}
use Rattle.refusal.specs.Answer.{given, refusal_of, or_refuse, below}
use Rattle.refusal.specs.declared.Refusal.{Refusal}

pub within_bound : (bound : ℕ) (r : Refusal) (n : ℕ) → n < bound → given n ≡ below bound r n
within_bound bound r n h = sym (ap (λ (t : Bool). or_refuse t r (given n)) (lt-ltb n bound h))

pub beyond_bound : (bound : ℕ) (r : Refusal) (n : ℕ) → bound ≤ n → refusal_of r ≡ below bound r n
beyond_bound bound r n h = sym (ap (λ (t : Bool). or_refuse t r (given n)) (le-ltb n bound h))
