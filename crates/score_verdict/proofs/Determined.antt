-- Each public function is determined by its promise: two results that it allows are equal. Assumes nothing.
use mathlib.Core.Path.{◌≡◌, refl}
use mathlib.Core.List.{List}
use Prim.Native.Nat.{ℕ}
use Rattle.refusal.proofs.Paper.{one, retract, answered_by_one}
use Rattle.position.specs.declared.State.{State}
use Rattle.score_verdict.specs.Verdict as P
use Rattle.score_verdict.specs.Answers.{verdict_paper}
use Rattle.score_verdict.specs.Promises.{EvalsEnding, Ends}
use Rattle.score_verdict.specs.declared.Verdict.{Verdict}
use Rattle.score_verdict.specs.declared.Verdict.TheVariants as C
use Rattle.std.specs.Prelude.{Result, Option, None, Some}
use Rattle.refusal.specs.declared.Refusal.{Refusal}

-- ---- answers that read the same are one
abbrev from_verdict : P.Verdict → Option Verdict
from_verdict P.lost = Some C.Lost
from_verdict P.won = Some C.Won
from_verdict P.drawn = Some C.Drawn
from_verdict P.none = None

verdict_back : (v : Option Verdict) → from_verdict (verdict_paper v) ≡ v
verdict_back (Some C.Lost) = refl
verdict_back (Some C.Won) = refl
verdict_back (Some C.Drawn) = refl
verdict_back None = refl

-- ---- the door
pub eval_ending : (bitboards board : List ℕ) (state : State) (r s : Result (Option Verdict) Refusal)
    → EvalsEnding bitboards board state r → EvalsEnding bitboards board state s → r ≡ s
eval_ending bitboards board state r s p q = answered_by_one verdict_paper from_verdict verdict_back p q

-- ---- the inner function
pub inner_ending : (bitboards : List ℕ) (side : ℕ) (r s : Option Verdict) → Ends bitboards side r → Ends bitboards side s → r ≡ s
inner_ending bitboards side r s p q = retract verdict_paper from_verdict verdict_back r s (one p q)
