-- What the function promises, for all inputs. Definitions only.
use Rattle.std.specs.Prelude.{◌≡◌, Bool, ◌&&◌, List, ℕ, eqb, length}
use Rattle.refusal.specs.Answer.{Answer, refusal_of, or_refuse}
use Rattle.refusal.specs.declared.Refusal.{Refusal}
use Rattle.refusal.specs.declared.Refusal.TheVariants as R
use Rattle.position_odds.specs.Odds.{or_odds}

-- SHAPE: "not 14 bitboards, 64 bytes"
abbrev pub sized : List ℕ → List ℕ → Bool
sized bbs bytes = eqb (length bbs) 14 && eqb (length bytes) 64

-- the refusal itself on the paper: nothing is given here but refusals
abbrev pub refused_as : Refusal → Answer Unit
refused_as r = refusal_of r

-- where nothing is at odds there is no lowest byte: BYTEBOARD with 64, which no door gives, since each asks only after the test has failed
abbrev pub Tells : List ℕ → List ℕ → Refusal → Type 0
Tells bitboards board r = refused_as r ≡ or_refuse (sized bitboards board) R.Shape (or_odds bitboards board (refused_as (R.Byteboard 64)))
