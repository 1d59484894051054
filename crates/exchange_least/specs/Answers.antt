-- What the door answers, refusals in order (the least attacker takes no square: 1, 2 and 20), and the code's answers on the paper. Definitions only.
use Rattle.std.specs.Prelude.{List, ℕ, Option, None, Some}
use Rattle.refusal.specs.Answer.{Answer, given, or_refuse}
use Rattle.refusal.specs.declared.Refusal.TheVariants as R
use Rattle.position.specs.Checked.{checked}
use Rattle.position.specs.declared.State.{State}
use Rattle.attack.specs.Answers.{with_colour}
use Rattle.exchange_order.specs.Orders.{each_once}
use Rattle.exchange_least.specs.Least.{Attacker, nobody, attacker, least_of}

-- W-206: "depends on an order of the six kinds handed to it, and it also tells the kind it chose"; ORDER "if the six aren't each kind once"
abbrev pub lvp_of : List ℕ → List ℕ → List ℕ → State → ℕ → ℕ → ℕ → Answer Attacker
lvp_of kinds bbs bytes state colour attacks occ =
    with_colour colour (checked bbs bytes state (or_refuse (each_once kinds) R.Order (given (least_of kinds bbs colour attacks occ))))

-- ---- the code's answers on the paper
abbrev pub paper_attacker : Option (ℕ × ℕ) → Attacker
paper_attacker (Some (s, kind)) = attacker s kind
paper_attacker None = nobody
