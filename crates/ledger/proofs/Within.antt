-- What a call says it wrote lies within the buffer. Assumes nothing.
use mathlib.Core.Path.{◌≡◌, subst}
use mathlib.Core.List.{List}
use Prim.Native.Nat.{ℕ, ◌≤◌}
use lib.ListN.{length}
use Rattle.line_profile.specs.declared.Profile.{Profile}
use Rattle.ledger_feed.specs.Promises.{wrote, Feeds, came_as}
use Rattle.ledger_feed.specs.declared.SoFar.{SoFar}
use Rattle.std.specs.Prelude.{Result, Ok}
use Rattle.ledger_feed.specs.declared.Unwritten.{Unwritten}

pub fed_within : {profile : Profile} {state : SoFar} {line chunk out : List ℕ} {r : Result (SoFar × ℕ) Unwritten} {line' out' : List ℕ} → Feeds profile state line chunk out r line' out'
    → (next : SoFar) (n : ℕ) → r ≡ Ok (next, n) → n ≤ length out
fed_within {out = out} f next n told = subst (λ (q : Result (SoFar × ℕ) Unwritten). wrote (came_as q) ≤ length out) told f.within
