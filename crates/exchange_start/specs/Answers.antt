-- What comes before every answer about an exchange: document 01's "Exchange: 1, 2, 4, 5, 6", with 20 "after SQUARE". Definitions only.
use Rattle.std.specs.Prelude.{Bool, ◌&&◌, List, ℕ, ltb}
use Rattle.refusal.specs.Answer.{Answer, given, or_refuse}
use Rattle.refusal.specs.declared.Refusal.TheVariants as R
use Rattle.position.specs.Checked.{checked}
use Rattle.position.specs.declared.State.{State}
use Rattle.exchange_order.specs.Orders.{each_once}
use Rattle.exchange_start.specs.Capture.{may_capture, uncrowded}
use Rattle.exchange_start.specs.declared.Mode.{Mode}

-- SQUARE: "a square above 63"
abbrev pub both_on_board : ℕ → ℕ → Bool
both_on_board from to = ltb from 64 && ltb to 64

-- whatever is asked of the captures of an exchange, behind its refusals
abbrev pub behind : {A : Type 0} → Mode → List ℕ → List ℕ → List ℕ → State → ℕ → ℕ → A → Answer A
behind mode kinds bbs bytes state from to asked =
    checked bbs bytes state
    (or_refuse (both_on_board from to) R.Square
    (or_refuse (each_once kinds) R.Order (or_refuse (may_capture mode bbs bytes state from to) R.Move (or_refuse (uncrowded bbs) R.Crowd (given asked)))))
