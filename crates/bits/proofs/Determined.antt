-- Each public function is determined by its promise: two results that it allows are equal. Assumes nothing.
use mathlib.Core.Path.{◌≡◌, refl}
use mathlib.Core.List.{List, [], ◌∷◌}
use Prim.Native.Nat.{ℕ}
use lib.IntN.{ℤ}
use Rattle.refusal.proofs.Paper.{one, retract, answered_same}
use Rattle.bits.specs.Answers.{lowest}
use Rattle.bits.specs.Promises.{Counts, Scans, FromSquare, Gets, Sets, Resets, Toggles, Shifts, Nexts, Unites, ReadsBitboard}
use Rattle.std.specs.Prelude.{Result, Option, None, Some}
use Rattle.refusal.specs.declared.Refusal.{Refusal}
use mathlib.Core.Bool.{Bool}

-- ---- answers that read the same are one
abbrev unlist : List ℕ → Option (ℕ × ℕ)
unlist [] = None
unlist (s ∷ []) = None
unlist (s ∷ b ∷ l) = Some (s, b)

lowest_back : (r : Option (ℕ × ℕ)) → unlist (lowest r) ≡ r
lowest_back (Some (s, b)) = refl
lowest_back None = refl

pub lowest_one : (r s : Option (ℕ × ℕ)) → lowest r ≡ lowest s → r ≡ s
lowest_one = retract lowest unlist lowest_back

-- ---- the functions
pub count : (b r s : ℕ) → Counts b r → Counts b s → r ≡ s
count b r s = one

pub scan : (b r s : ℕ) → Scans b r → Scans b s → r ≡ s
scan b r s = one

pub from_square : (square : ℕ) (r s : Result ℕ Refusal) → FromSquare square r → FromSquare square s → r ≡ s
from_square square r s p q = answered_same r s (one p q)

pub get : (b square : ℕ) (r s : Result Bool Refusal) → Gets b square r → Gets b square s → r ≡ s
get b square r s p q = answered_same r s (one p q)

pub set : (b square : ℕ) (r s : Result ℕ Refusal) → Sets b square r → Sets b square s → r ≡ s
set b square r s p q = answered_same r s (one p q)

pub reset : (b square : ℕ) (r s : Result ℕ Refusal) → Resets b square r → Resets b square s → r ≡ s
reset b square r s p q = answered_same r s (one p q)

pub toggle : (b square : ℕ) (r s : Result ℕ Refusal) → Toggles b square r → Toggles b square s → r ≡ s
toggle b square r s p q = answered_same r s (one p q)

pub shift : (b : ℕ) (by : ℤ) (r s : Result ℕ Refusal) → Shifts b by r → Shifts b by s → r ≡ s
shift b by r s p q = answered_same r s (one p q)

pub next : (b : ℕ) (r s : Option (ℕ × ℕ)) → Nexts b r → Nexts b s → r ≡ s
next b r s p q = lowest_one r s (one p q)

pub union : (a b r s : ℕ) → Unites a b r → Unites a b s → r ≡ s
union a b r s = one

pub at : (bitboards : List ℕ) (i r s : ℕ) → ReadsBitboard bitboards i r → ReadsBitboard bitboards i s → r ≡ s
at bitboards i r s = one
