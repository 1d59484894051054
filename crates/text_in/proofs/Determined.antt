-- Each public function is determined by its promise: two results that it allows are equal. Assumes nothing.
use mathlib.Core.Path.{◌≡◌}
use mathlib.Core.Bool.{Bool}
use mathlib.Core.List.{List}
use Prim.Native.Nat.{ℕ}
use Rattle.refusal.proofs.Paper.{one}
use Rattle.text_in.specs.Promises.{IsText, Finds, Before, Past, After, Trims, SkipsSpaces, Is}

pub is_text_holds : (s : List ℕ) (r q : Bool) → IsText s r → IsText s q → r ≡ q
is_text_holds s r q = one

pub find : (s : List ℕ) (mark r q : ℕ) → Finds s mark r → Finds s mark q → r ≡ q
find s mark r q = one

pub text_before : (s : List ℕ) (mark : ℕ) (r q : List ℕ) → Before s mark r → Before s mark q → r ≡ q
text_before s mark r q = one

pub past : (s : List ℕ) (mark r q : ℕ) → Past s mark r → Past s mark q → r ≡ q
past s mark r q = one

pub text_after_holds : (s : List ℕ) (mark : ℕ) (r q : List ℕ) → After s mark r → After s mark q → r ≡ q
text_after_holds s mark r q = one

pub trim : (s r q : List ℕ) → Trims s r → Trims s q → r ≡ q
trim s r q = one

pub skip_spaces : (s r q : List ℕ) → SkipsSpaces s r → SkipsSpaces s q → r ≡ q
skip_spaces s r q = one

pub is : (s word : List ℕ) (r q : Bool) → Is s word r → Is s word q → r ≡ q
is s word r q = one
