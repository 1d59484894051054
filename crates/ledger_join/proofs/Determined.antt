-- Each public function is determined by its promise: two answers, and two contents of each lent memory, that it allows are equal.
-- Assumes nothing.
use mathlib.Core.Path.{◌≡◌, refl}
use mathlib.Core.List.{List}
use Prim.Native.Nat.{ℕ}
use Rattle.refusal.proofs.Paper.{one, retract}
use Rattle.ledger_join.specs.Promises.{StartsJoin, FeedsPart, PartEnd, onward, no_ledger_at, tooMany, noRoom, TurnsPart, part_said}
use Rattle.ledger_join.specs.Promises.{EndsJoin}
use Rattle.ledger_join.specs.declared.Joining.{Joining}
use Rattle.ledger_join.specs.declared.Unjoined.{Unjoined}
use Rattle.ledger_join.specs.declared.Unjoined.TheVariants as J
use Rattle.std.specs.Prelude.{Result, Ok, Err}
use Rattle.ledger_feed.specs.declared.Unwritten.{Unwritten}
use Rattle.ledger_feed.proofs.Determined.{came_same}

-- ---- answers that read the same are one
abbrev part_from : {A : Type 0} → PartEnd A → Result A Unjoined
part_from (onward a) = Ok a
part_from (no_ledger_at part number) = Err (J.NoLedger part number)
part_from tooMany = Err J.Many
part_from noRoom = Err J.Full

part_back : {A : Type 0} (r : Result A Unjoined) → part_from (part_said r) ≡ r
part_back (Ok a) = refl
part_back (Err (J.NoLedger part number)) = refl
part_back (Err J.Full) = refl
part_back (Err J.Many) = refl

-- ---- the functions
pub start : (r s : Joining) → StartsJoin r → StartsJoin s → r ≡ s
start r s p q = one p q

pub feed : (state : Joining) (row chunk out : List ℕ) (r s : Result (Joining × ℕ) Unwritten) (row₁ out₁ row₂ out₂ : List ℕ)
    → FeedsPart state row chunk out r row₁ out₁ → FeedsPart state row chunk out s row₂ out₂ → (r ≡ s) × (row₁ ≡ row₂) × (out₁ ≡ out₂)
feed state row chunk out r s row₁ out₁ row₂ out₂ p q =
    (came_same r s (one p.answer q.answer), one p.kept q.kept, one p.rows q.rows)

pub next_part_holds : (state : Joining) (r s : Result Joining Unjoined) → TurnsPart state r → TurnsPart state s → r ≡ s
next_part_holds state r s p q = retract part_said part_from part_back r s (one p q)

pub finish : (state : Joining) (out : List ℕ) (r s : Result ℕ Unjoined) (out₁ out₂ : List ℕ) → EndsJoin state out r out₁ → EndsJoin state out s out₂ → (r ≡ s)
    × (out₁ ≡ out₂)
finish state out r s out₁ out₂ p q = (retract part_said part_from part_back r s (one p.answer q.answer), one p.row q.row)
