-- What a call says it wrote lies within the buffer. Assumes nothing.
use mathlib.Core.Path.{◌≡◌, subst}
use mathlib.Core.List.{List}
use Prim.Native.Nat.{ℕ, ◌≤◌}
use lib.ListN.{length}
use Rattle.store_rows.specs.Promises.{store_wrote, FeedsStore}
use Rattle.store_rows.specs.declared.StoreSoFar.{StoreSoFar}
use Rattle.std.specs.Prelude.{Result, Ok}
use Rattle.ledger_feed.specs.declared.Unwritten.{Unwritten}
use Rattle.ledger_feed.specs.Promises.{came_as}

pub fed_within : {state : StoreSoFar} {piece chunk out : List ℕ} {r : Result (StoreSoFar × ℕ) Unwritten} {piece' out' : List ℕ} → FeedsStore state piece chunk out r piece' out'
    → (next : StoreSoFar) (n : ℕ) → r ≡ Ok (next, n) → n ≤ length out
fed_within {out = out} f next n told = subst (λ (q : Result (StoreSoFar × ℕ) Unwritten). store_wrote (came_as q) ≤ length out) told f.within
