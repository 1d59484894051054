-- Each public function is determined by its promise: two results that it allows are equal. Assumes nothing.
use mathlib.Core.Path.{◌≡◌, refl}
use mathlib.Core.List.{List, [], ◌∷◌}
use Prim.Native.Nat.{ℕ}
use Rattle.refusal.specs.Refusals.{Numbers, NamesSquare, listed}
use Rattle.refusal.specs.declared.Refusal.{Refusal}
use Rattle.std.specs.Prelude.{Option, None, Some}
use Rattle.refusal.proofs.Paper.{one, retract}

pub refusal_number : (q : Refusal) (r s : ℕ) → Numbers q r → Numbers q s → r ≡ s
refusal_number q r s = one

-- what stands beside it is read off its list
abbrev beside_from : List ℕ → Option ℕ
beside_from [] = None
beside_from (s ∷ l) = Some s

listed_back : (b : Option ℕ) → beside_from (listed b) ≡ b
listed_back None = refl
listed_back (Some s) = refl

pub refusal_square : (q : Refusal) (r s : Option ℕ) → NamesSquare q r → NamesSquare q s → r ≡ s
refusal_square q r s e f = retract listed beside_from listed_back r s (one e f)
