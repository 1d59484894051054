-- What the end of the store says it wrote lies within the buffer. Assumes nothing.
use mathlib.Core.Path.{◌≡◌, subst}
use mathlib.Core.List.{List}
use Prim.Native.Nat.{ℕ, ◌≤◌}
use lib.ListN.{length}
use Rattle.ledger_finish.specs.Promises.{last_wrote}
use Rattle.store_rows.specs.declared.StoreSoFar.{StoreSoFar}
use Rattle.store_finish.specs.Promises.{FinishesStore}
use Rattle.std.specs.Prelude.{Result, Ok}
use Rattle.ledger_feed.specs.declared.Unwritten.{Unwritten}
use Rattle.ledger_feed.specs.Promises.{came_as}

pub store_last_within : {state : StoreSoFar} {out : List ℕ} {r : Result ℕ Unwritten} {out' : List ℕ} → FinishesStore state out r out' → (n : ℕ) → r ≡ Ok n
    → n ≤ length out
store_last_within {out = out} f n told = subst (λ (q : Result ℕ Unwritten). last_wrote (came_as q) ≤ length out) told f.within
