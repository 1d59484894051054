-- Each promise allows one result. Assumes nothing.
use mathlib.Core.Path.{◌≡◌, sym, ◌∙◌}
use Prim.Native.Nat.{ℕ}
use Rattle.trace_mobility.specs.Promises.{CountsAttacked}

pub attacked : (pieces kind colour occ r s : ℕ) → CountsAttacked pieces kind colour occ r → CountsAttacked pieces kind colour occ s → r ≡ s
attacked pieces kind colour occ r s p q = p ∙ sym q
