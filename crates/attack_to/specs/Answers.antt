-- What each door answers, refusals in document 01's order ("`is_check`: 1, 2. Other attacks ..: 1, 2, 4, as far as they take such inputs"), and the
-- code's answers on the paper. Definitions only.
use Rattle.std.specs.Prelude.{Bool, List, ℕ}
use Rattle.refusal.specs.Answer.{Answer, given}
use Rattle.bits.specs.Answers.{on_board}
use Rattle.position.specs.Checked.{checked}
use Rattle.position.specs.declared.State.{State}
use Rattle.attack.specs.Answers.{with_colour}
use Rattle.attack_to.specs.Attackers.{attackers, is_attacked, is_check}

abbrev pub attacks_to_of : List ℕ → List ℕ → State → ℕ → ℕ → Answer ℕ
attacks_to_of bbs bytes state s occ = checked bbs bytes state (on_board s (attackers bbs s occ))

abbrev pub is_attacked_of : List ℕ → List ℕ → State → ℕ → ℕ → Answer Bool
is_attacked_of bbs bytes state s colour = with_colour colour (checked bbs bytes state (on_board s (is_attacked bbs s colour)))

abbrev pub is_check_of : List ℕ → List ℕ → State → ℕ → Answer Bool
is_check_of bbs bytes state colour = with_colour colour (checked bbs bytes state (given (is_check bbs colour)))

-- ---- the code's answers on the paper
