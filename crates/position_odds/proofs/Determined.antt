-- The public function is determined by its promise: two results that it allows are equal. Assumes nothing.
use mathlib.Core.Path.{◌≡◌}
use mathlib.Core.List.{List}
use Prim.Native.Nat.{ℕ}
use Rattle.refusal.specs.Answer.{Answer}
use Rattle.refusal.specs.declared.Refusal.{Refusal}
use Rattle.refusal.specs.declared.Refusal.TheVariants as R
use Rattle.refusal.proofs.Paper.{one, retract, read_back_rule, number_back}
use Rattle.position_odds.specs.Promises.{refused_as, Tells}

-- a refusal is read off the paper again; nothing else stands there
abbrev back : Answer (Unit {0}) → Refusal
back = read_back_rule (λ u. R.Shape) (λ r. r)

pub refused_one : (r s : Refusal) → refused_as r ≡ refused_as s → r ≡ s
refused_one = retract refused_as back number_back

pub at_odds : (bitboards board : List ℕ) (r s : Refusal) → Tells bitboards board r → Tells bitboards board s → r ≡ s
at_odds bitboards board r s p q = refused_one r s (one p q)
