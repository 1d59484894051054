-- Each public function is determined by its promise: two answers, and two contents of each lent memory, that it allows are equal.
-- Assumes nothing.
use mathlib.Core.Path.{◌≡◌, refl, ap}
use mathlib.Core.Bool.{Bool}
use mathlib.Core.List.{List}
use Prim.Native.Nat.{ℕ}
use Rattle.refusal.proofs.Paper.{one, retract, of_number, number_back}
use Rattle.line_profile.specs.declared.Profile.{Profile}
use Rattle.ledger_feed.specs.Promises.{Came, turned, many, full, came, Starts, Countable, Feeds, came_as}
use Rattle.ledger_feed.specs.declared.SoFar.{SoFar}
use Rattle.std.specs.Prelude.{Result, Ok, Err}
use Rattle.ledger_feed.specs.declared.Unwritten.TheVariants as U
use Rattle.ledger_feed.specs.declared.Unwritten.{Unwritten}

-- ---- answers that read the same are one
abbrev came_from : {A : Type 0} → Came A → Result A Unwritten
came_from (came a) = Ok a
came_from full = Err U.Full
came_from many = Err U.Many
came_from (turned n l) = Err (U.Refused (of_number n l))

came_back : {A : Type 0} (r : Result A Unwritten) → came_from (came_as r) ≡ r
came_back (Ok a) = refl
came_back (Err U.Full) = refl
came_back (Err U.Many) = refl
came_back (Err (U.Refused q)) = ap (λ q. Err (U.Refused q)) (number_back q)

pub came_same : {A : Type 0} (r s : Result A Unwritten) → came_as r ≡ came_as s → r ≡ s
came_same = retract came_as came_from came_back

-- ---- the functions
pub start : (r s : SoFar) → Starts r → Starts s → r ≡ s
start r s p q = one p q

pub countable : (loaded others more : ℕ) (r s : Bool) → Countable loaded others more r → Countable loaded others more s → r ≡ s
countable loaded others more r s p q = one p q

pub feed : (profile : Profile) (state : SoFar) (line chunk out : List ℕ) (r s : Result (SoFar × ℕ) Unwritten) (line₁ out₁ line₂ out₂ : List ℕ)
    → Feeds profile state line chunk out r line₁ out₁ → Feeds profile state line chunk out s line₂ out₂ → (r ≡ s) × (line₁ ≡ line₂) × (out₁ ≡ out₂)
feed profile state line chunk out r s line₁ out₁ line₂ out₂ p q =
    (came_same r s (one p.answer q.answer), one p.kept q.kept, one p.rows q.rows)
