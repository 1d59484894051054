-- What each function promises, for all inputs. Definitions only.
use Rattle.std.specs.Prelude.{◌≡◌, Bool, List, ℕ, Result}
use Rattle.position.specs.declared.State.{State}
use Rattle.exchange_start.specs.Capture.{kind_on, takes_passing, may_capture, uncrowded}
use Rattle.exchange_start.specs.Answers.{behind}
use Rattle.exchange_start.specs.declared.Mode.{Mode}
use Rattle.refusal.specs.declared.Refusal.{Refusal}
use Rattle.refusal.specs.Answer.{answered}

abbrev pub KindOn : List ℕ → ℕ → ℕ → Type 0
KindOn board square r = r ≡ kind_on board square

abbrev pub TakesPassing : Mode → List ℕ → State → ℕ → ℕ → Bool → Type 0
TakesPassing mode board state from to r = r ≡ takes_passing mode board state from to

abbrev pub MayCapture : Mode → List ℕ → List ℕ → State → ℕ → ℕ → Bool → Type 0
MayCapture mode bitboards board state from to r = r ≡ may_capture mode bitboards board state from to

abbrev pub Uncrowded : List ℕ → Bool → Type 0
Uncrowded bitboards r = r ≡ uncrowded bitboards

abbrev pub BeginsExchange : Mode → List ℕ → List ℕ → List ℕ → State → ℕ → ℕ → Result Unit Refusal → Type 0
BeginsExchange mode kinds bitboards board state from to r = answered r ≡ behind mode kinds bitboards board state from to tt
