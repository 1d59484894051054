-- Each function is determined by its promise, and so is a door by what passes it: two results that are allowed are equal. Assumes nothing.
use mathlib.Core.Path.{◌≡◌}
use mathlib.Core.Bool.{Bool}
use Prim.Native.Nat.{ℕ}
use Rattle.refusal.specs.Answer.{Answer}
use Rattle.refusal.specs.declared.Refusal.{Refusal}
use Rattle.refusal.proofs.Paper.{one}
use Rattle.abi_codes.specs.Codes.{Door, Doors}
use Rattle.abi_codes.specs.Promises.{GivesCode, GivesFlag}
use Rattle.abi_codes.specs.declared.Code.{Code}

pub refused : (refusal : Refusal) (r s : Code) → GivesCode refusal r → GivesCode refusal s → r ≡ s
refused refusal r s p q = one p q

pub flag : (holds : Bool) (r s : ℕ) → GivesFlag holds r → GivesFlag holds s → r ≡ s
flag holds r s p q = one p q

-- ---- a door that lends one number, and one that lends two
pub door : {A B : Type 0} {a : Answer A} {part : A → B} {old : B} {r s : Code} {new new' : B} → Door a part old r new → Door a part old s new'
    → (r ≡ s) × (new ≡ new')
door p q = (one p.code q.code, one p.lent q.lent)

pub doors : {A B C : Type 0} {a : Answer A} {first : A → B} {second : A → C} {old : B} {old2 : C} {r s : Code} {new new' : B} {new2 new2' : C}
    → Doors a first second old old2 r new new2 → Doors a first second old old2 s new' new2' → (r ≡ s) × (new ≡ new') × (new2 ≡ new2')
doors p q = (one p.code q.code, one p.lent q.lent, one p.lent2 q.lent2)
