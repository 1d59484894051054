-- What the door answers, and the code's answers on the paper. Definitions only.
use Rattle.std.specs.Prelude.{List, ℕ, ℤ}
use Rattle.refusal.specs.Answer.{Answer}
use Rattle.position.specs.declared.State.{State}
use Rattle.exchange_start.specs.Answers.{behind}
use Rattle.exchange_start.specs.declared.Mode.{Mode}
use Rattle.exchange.specs.Exchange.{exchange_of}

-- W-206: "The exchange, and whatever calls it, passes the order on"; W-213's mode goes with it
abbrev pub see_of : Mode → List ℕ → List ℕ → List ℕ → State → ℕ → ℕ → Answer ℤ
see_of mode kinds bbs bytes state from to = behind mode kinds bbs bytes state from to (exchange_of mode kinds bbs bytes state from to)

-- ---- the code's answers on the paper
