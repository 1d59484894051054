-- Each door is determined by its promise: two results that it allows are equal, and so is every lent number afterwards. Assumes nothing.
use mathlib.Core.Path.{◌≡◌}
use mathlib.Core.List.{List}
use Prim.Native.Nat.{ℕ}
use Rattle.refusal.proofs.Paper.{one}
use Rattle.abi_ledgers.specs.Promises.{ReadsState, GivesState, FeedsLedger, FinishesLedger}
use Rattle.abi_codes.specs.declared.Code.{Code}
use Rattle.ledger_feed.specs.declared.SoFar.{SoFar}

-- ---- the state
pub state_of_holds : (numbers : List ℕ) (r s : SoFar) → ReadsState numbers r → ReadsState numbers s → r ≡ s
state_of_holds numbers r s p q = one p q

pub numbers_of : (state : SoFar) (r s : List ℕ) → GivesState state r → GivesState state s → r ≡ s
numbers_of state r s p q = one p q

-- ---- the ledger
pub ledger_feed : (state line chunk out : List ℕ) (wrote : ℕ) (r s : Code) (t t' l l' o o' : List ℕ) (w w' : ℕ)
    → FeedsLedger state line chunk out wrote r t l o w → FeedsLedger state line chunk out wrote s t' l' o' w'
    → (r ≡ s) × (t ≡ t') × (l ≡ l') × (o ≡ o') × (w ≡ w')
ledger_feed state line chunk out wrote r s t t' l l' o o' w w' p q =
    (one p.code q.code, one p.lent q.lent, one p.kept q.kept, one p.rows q.rows, one p.lent2 q.lent2)

pub ledger_finish : (state line out : List ℕ) (wrote : ℕ) (r s : Code) (o o' : List ℕ) (w w' : ℕ)
    → FinishesLedger state line out wrote r o w → FinishesLedger state line out wrote s o' w' → (r ≡ s) × (o ≡ o') × (w ≡ w')
ledger_finish state line out wrote r s o o' w w' p q = (one p.code q.code, one p.rows q.rows, one p.lent q.lent)
