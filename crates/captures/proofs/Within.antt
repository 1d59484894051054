-- What a call says it wrote lies within the buffer. Assumes nothing.
use mathlib.Core.Path.{◌≡◌, subst}
use mathlib.Core.List.{List}
use Prim.Native.Nat.{ℕ, ◌≤◌}
use lib.ListN.{length}
use Rattle.exchange_start.specs.declared.Mode.{Mode}
use Rattle.ledger_feed.specs.Promises.{wrote, came_as}
use Rattle.ledger_feed.specs.declared.SoFar.{SoFar}
use Rattle.ledger_finish.specs.Promises.{last_wrote}
use Rattle.captures_feed.specs.Promises.{TellsQuestions, TellsLast}
use Rattle.std.specs.Prelude.{Result, Ok}
use Rattle.ledger_feed.specs.declared.Unwritten.{Unwritten}

pub fed_within : {mode : Mode} {state : SoFar} {line chunk out : List ℕ} {r : Result (SoFar × ℕ) Unwritten} {line' out' : List ℕ} → TellsQuestions mode state line chunk out r line' out'
    → (next : SoFar) (n : ℕ) → r ≡ Ok (next, n) → n ≤ length out
fed_within {out = out} f next n told = subst (λ (q : Result (SoFar × ℕ) Unwritten). wrote (came_as q) ≤ length out) told f.within

pub last_within : {mode : Mode} {state : SoFar} {line out : List ℕ} {r : Result ℕ Unwritten} {out' : List ℕ} → TellsLast mode state line out r out' → (n : ℕ)
    → r ≡ Ok n → n ≤ length out
last_within {out = out} f n told = subst (λ (q : Result ℕ Unwritten). last_wrote (came_as q) ≤ length out) told f.within
