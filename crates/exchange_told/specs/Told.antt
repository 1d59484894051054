-- What is told of an exchange (document 02, W-207). Definitions only.
use Rattle.std.specs.Prelude.{List, [], ℕ}
use Rattle.refusal.specs.Answer.{Answer, given, refused}
use Rattle.position.specs.declared.State.{State}
use Rattle.exchange_start.specs.Answers.{behind}
use Rattle.exchange_start.specs.declared.Mode.{Mode}
use Rattle.exchange_value.specs.Stop.{Stop, stop_of}
use Rattle.exchange.specs.Exchange.{Capture, values_taken, captures_of}

-- "It takes any order of W-206, with that request's refusals"; and either mode of W-213
unfoldable pub told_of : Mode → List ℕ → List ℕ → List ℕ → State → ℕ → ℕ → Answer (List Capture)
told_of mode kinds bbs bytes state from to = behind mode kinds bbs bytes state from to (captures_of mode kinds bbs bytes state from to)

-- "the captures of an exchange in order": none beside a refusal
abbrev pub the_captures : Answer (List Capture) → List Capture
the_captures (given cs) = cs
the_captures (refused number beside) = []

-- "then the stopping point"
abbrev pub the_stop : List Capture → Stop
the_stop cs = stop_of (values_taken cs)
