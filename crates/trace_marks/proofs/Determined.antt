-- Each public function is determined by its promise: two results that it allows are equal. Assumes nothing.
use mathlib.Core.Path.{◌≡◌}
use mathlib.Core.List.{List}
use Prim.Native.Nat.{ℕ}
use lib.IntN.{ℤ}
use Rattle.refusal.proofs.Paper.{one}
use Rattle.trace_marks.specs.Promises.{Sees, GivesOnes}
use Rattle.trace_marks.specs.declared.Reading.{Reading}

pub seen : (entries : List ℤ) (r s : Reading) → Sees entries r → Sees entries s → r ≡ s
seen entries r s p q = one p q

pub ones : (entries : List ℤ) (g r s : ℕ) → GivesOnes entries g r → GivesOnes entries g s → r ≡ s
ones entries g r s p q = one p q
