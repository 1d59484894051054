-- What a call says it wrote lies within its buffer. Assumes nothing.
use mathlib.Core.Path.{◌≡◌, subst}
use mathlib.Core.List.{List}
use Prim.Native.Nat.{ℕ, ◌≤◌}
use lib.ListN.{length}
use Rattle.ledger_feed.specs.declared.SoFar.{SoFar}
use Rattle.sift_form.specs.declared.Form.{Form}
use Rattle.sift_feed.specs.Promises.{sifted_bytes, Sifts}
use Rattle.std.specs.Prelude.{Result, Ok}
use Rattle.ledger_feed.specs.declared.Unwritten.{Unwritten}
use Rattle.ledger_feed.specs.Promises.{came_as}

module _ {state : SoFar} {form : Form} {line chunk made rows : List ℕ} {r : Result (SoFar × ℕ × ℕ) Unwritten} {line' made' rows' : List ℕ}
    (f : Sifts state form line chunk made rows r line' made' rows')
    (next : SoFar) (n m : ℕ) (told : r ≡ Ok (next, n, m)) where
  pub made_within_holds : n ≤ length made
  made_within_holds = subst (λ (q : Result (SoFar × ℕ × ℕ) Unwritten). (sifted_bytes (came_as q)).0 ≤ length made) told f.made_within

  pub rows_within_holds : m ≤ length rows
  rows_within_holds = subst (λ (q : Result (SoFar × ℕ × ℕ) Unwritten). (sifted_bytes (came_as q)).1 ≤ length rows) told f.rows_within
