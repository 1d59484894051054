-- What an answer after a test says of the test. Assumes nothing.
use mathlib.Core.Path.{◌≡◌, refl, sym}
use mathlib.Core.Bool.{Bool, true, false}
use mathlib.Core.List.{List}
use Prim.Native.Nat.{ℕ}
use native.Mathlib.Omega.{arith}
use Rattle.refusal.specs.Answer.{Answer, given, refused, or_refuse}
use Rattle.refusal.specs.declared.Refusal.{Refusal}

pub given_not {ℓ} : {X : Type ℓ} {A : Type 0} {a : A} {n : ℕ} {l : List ℕ} → given a ≡ refused n l → X
given_not e = absurd (let z : ◌≡◌ {A = ℕ} 0 1 = cc in omega arith)

pub same_given : {A : Type 0} {x y : A} → given x ≡ given y → x ≡ y
same_given e = cc

-- it was given, so the test held; it was refused, so it did not
pub was_given : {A : Type 0} (holds : Bool) (r : Refusal) (a b : A) → given a ≡ or_refuse holds r (given b) → (holds ≡ true) × (a ≡ b)
was_given true r a b e = (refl, cc)
was_given false r a b e = given_not e

pub was_refused : {A : Type 0} (holds : Bool) (r : Refusal) (n : ℕ) (l : List ℕ) (b : A) → refused n l ≡ or_refuse holds r (given b) → holds ≡ false
was_refused true r n l b e = given_not (sym e)
was_refused false r n l b e = refl

-- one test among others: it held, and what comes after it was given
pub passed : {A : Type 0} (holds : Bool) (r : Refusal) (a : A) (rest : Answer A) → or_refuse holds r rest ≡ given a → (holds ≡ true) × (rest ≡ given a)
passed true r a rest e = (refl, e)
passed false r a rest e = given_not (sym e)
