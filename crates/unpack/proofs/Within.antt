-- What a call says it wrote lies within its buffer. Assumes nothing.
use mathlib.Core.Path.{◌≡◌, subst}
use mathlib.Core.List.{List}
use Prim.Native.Nat.{ℕ, ◌≤◌}
use lib.ListN.{length}
use Rattle.sift_form.specs.declared.Form.{Form}
use Rattle.store_rows.specs.declared.StoreSoFar.{StoreSoFar}
use Rattle.store_sift.specs.Promises.{store_sifted_bytes, SiftsStore}
use Rattle.std.specs.Prelude.{Result, Ok}
use Rattle.ledger_feed.specs.declared.Unwritten.{Unwritten}
use Rattle.ledger_feed.specs.Promises.{came_as}

module _ {state : StoreSoFar} {form : Form} {piece chunk made rows : List ℕ} {r : Result (StoreSoFar × ℕ × ℕ) Unwritten} {piece' made' rows' : List ℕ}
    (f : SiftsStore state form piece chunk made rows r piece' made' rows') (next : StoreSoFar) (n m : ℕ) (told : r ≡ Ok (next, n, m)) where
  pub made_within_holds : n ≤ length made
  made_within_holds = subst (λ (q : Result (StoreSoFar × ℕ × ℕ) Unwritten). (store_sifted_bytes (came_as q)).0 ≤ length made) told f.made_within

  pub rows_within_holds : m ≤ length rows
  rows_within_holds = subst (λ (q : Result (StoreSoFar × ℕ × ℕ) Unwritten). (store_sifted_bytes (came_as q)).1 ≤ length rows) told f.rows_within
