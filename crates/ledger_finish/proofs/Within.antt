-- What the end of the input says it wrote lies within the buffer. Assumes nothing.
use mathlib.Core.Path.{◌≡◌, subst}
use mathlib.Core.List.{List}
use Prim.Native.Nat.{ℕ, ◌≤◌}
use lib.ListN.{length}
use Rattle.line_profile.specs.declared.Profile.{Profile}
use Rattle.ledger_feed.specs.declared.SoFar.{SoFar}
use Rattle.ledger_finish.specs.Promises.{last_wrote, Finishes}
use Rattle.std.specs.Prelude.{Result, Ok}
use Rattle.ledger_feed.specs.declared.Unwritten.{Unwritten}
use Rattle.ledger_feed.specs.Promises.{came_as}

pub last_within : {profile : Profile} {state : SoFar} {line out : List ℕ} {r : Result ℕ Unwritten} {out' : List ℕ} → Finishes profile state line out r out'
    → (n : ℕ) → r ≡ Ok n → n ≤ length out
last_within {out = out} f n told = subst (λ (q : Result ℕ Unwritten). last_wrote (came_as q) ≤ length out) told f.within
