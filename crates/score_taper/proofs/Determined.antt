-- Each public function is determined by its promise: two results that it allows are equal. Assumes nothing.
use mathlib.Core.Path.{◌≡◌, refl}
use Prim.Native.Nat.{ℕ}
use Rattle.refusal.specs.declared.Refusal.{Refusal}
use Rattle.refusal.proofs.Paper.{one, retract, read_back_rule}
use Rattle.score_taper.specs.Answers.{points, Scores}
use Rattle.score_taper.specs.declared.Side.{Side}
use Rattle.std.specs.Prelude.{Option, None, Some}
use lib.IntN.{ℤ}

-- a refusal is SCORE
abbrev over : Refusal → Option ℤ
over q = None

points_back : (r : Option ℤ) → read_back_rule Some over (points r) ≡ r
points_back (Some z) = refl
points_back None = refl

pub points_one : (r s : Option ℤ) → points r ≡ points s → r ≡ s
points_one = retract points (read_back_rule Some over) points_back

pub score : (own other : Side) (x : ℕ) (r s : Option ℤ) → Scores own other x r → Scores own other x s → r ≡ s
score own other x r s p q = points_one r s (one p q)
