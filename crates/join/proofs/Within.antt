-- What a call says it wrote lies within the buffer. Assumes nothing.
use mathlib.Core.Path.{◌≡◌, subst}
use mathlib.Core.List.{List}
use Prim.Native.Nat.{ℕ, ◌≤◌}
use lib.ListN.{length}
use Rattle.ledger_join.specs.Promises.{wrote_of, FeedsPart, part_said, end_wrote, EndsJoin}
use Rattle.ledger_join.specs.declared.Joining.{Joining}
use Rattle.ledger_join.specs.declared.Unjoined.{Unjoined}
use Rattle.std.specs.Prelude.{Result, Ok}
use Rattle.ledger_feed.specs.declared.Unwritten.{Unwritten}
use Rattle.ledger_feed.specs.Promises.{came_as}

pub fed_within : {state : Joining} {row chunk out : List ℕ} {r : Result (Joining × ℕ) Unwritten} {row' out' : List ℕ} → FeedsPart state row chunk out r row' out'
    → (next : Joining) (n : ℕ) → r ≡ Ok (next, n) → n ≤ length out
fed_within {out = out} f next n told = subst (λ (q : Result (Joining × ℕ) Unwritten). wrote_of (came_as q) ≤ length out) told f.within

pub last_within : {state : Joining} {out : List ℕ} {r : Result ℕ Unjoined} {out' : List ℕ} → EndsJoin state out r out' → (n : ℕ) → r ≡ Ok n → n ≤ length out
last_within {out = out} f n told = subst (λ (q : Result ℕ Unjoined). end_wrote (part_said q) ≤ length out) told f.within
