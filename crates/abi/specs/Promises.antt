-- What each door promises, for all inputs: the number that comes back and every lent number afterwards. Definitions only.
use Rattle.std.specs.Prelude.{◌≡◌, Bool, List, [], ℕ, ℤ, length, Result}
use Rattle.refusal.specs.Answer.{Answer, given, refused, answered}
use Rattle.chess.specs.Named.{white}
use Rattle.position.specs.Checked.{of_side}
use Rattle.position.specs.declared.State.{State}
use Rattle.attack.specs.Answers.{piece_attacks_of}
use Rattle.attack_to.specs.Answers.{attacks_to_of, is_attacked_of, is_check_of}
use Rattle.exchange_least.specs.Answers.{lvp_of}
use Rattle.exchange.specs.Answers.{see_of}
use Rattle.line_parse.specs.Line.{Line}
use Rattle.line.specs.Field.{field_of, start_of}
use Rattle.line.specs.declared.Part.{Part}
use Rattle.line_parse.specs.Promises.{by_value, board_after}
use Rattle.line.specs.Promises.{read_of, bitboards_after}
use Rattle.score.specs.Score.{eval_of}
use Rattle.score_verdict.specs.Verdict.{ending_of}
use Rattle.score_material.specs.Material.{material_of}
use Rattle.abi_codes.specs.Codes.{code, answer_number, lent_after, Door, Doors, as_it_is}
use Rattle.abi.specs.Doors.{verdict_code, outcome_verdict, outcome_score, anyone, square_or, kind_or}
use Rattle.abi_codes.specs.declared.Code.{Code}
use Rattle.abi.specs.declared.lines.Line.{Line as Read}
use Rattle.exchange_start.specs.declared.Mode.{Mode}
use Rattle.abi_modes.specs.Modes.{in_mode}
use Rattle.abi_states.specs.States.{state_taken, state_told}
use Rattle.abi_states.specs.declared.State.{State as Stated}
use Rattle.refusal.specs.declared.Refusal.{Refusal}

-- ---- scores
abbrev pub EvalsEnding : List ℕ → List ℕ → Stated → ℕ → Code → ℕ → Type 0
EvalsEnding bitboards board state verdict r verdict' = Door (ending_of bitboards board (state_taken state)) verdict_code verdict r verdict'

abbrev pub EvalsMaterial : List ℕ → List ℕ → Stated → ℕ → ℤ → Code → ℤ → Type 0
EvalsMaterial bitboards board state colour material r material' = Door (material_of bitboards board (state_taken state) colour) as_it_is material r material'

abbrev pub Evals : List ℕ → List ℕ → Stated → ℕ → ℤ → Code → ℕ → ℤ → Type 0
Evals bitboards board state verdict score r verdict' score' =
    Doors (eval_of bitboards board (state_taken state)) outcome_verdict outcome_score verdict score r verdict' score'

-- ---- attacks
abbrev pub PieceAttacks : ℕ → ℕ → ℕ → ℕ → Code → ℕ → Type 0
PieceAttacks piece square occupied squares r squares' = Door (piece_attacks_of piece square occupied) as_it_is squares r squares'

abbrev pub AttacksTo : List ℕ → List ℕ → Stated → ℕ → ℕ → ℕ → Code → ℕ → Type 0
AttacksTo bitboards board state square occupied squares r squares' = Door (attacks_to_of bitboards board (state_taken state) square occupied) as_it_is
    squares r squares'

abbrev pub IsAttacked : List ℕ → List ℕ → Stated → ℕ → ℕ → Bool → Code → Bool → Type 0
IsAttacked bitboards board state square colour attacked r attacked' =
    Door (is_attacked_of bitboards board (state_taken state) square colour) as_it_is attacked r attacked'

abbrev pub IsCheck : List ℕ → List ℕ → Stated → ℕ → Bool → Code → Bool → Type 0
IsCheck bitboards board state colour check r check' = Door (is_check_of bitboards board (state_taken state) colour) as_it_is check r check'

-- ---- exchanges
pub record Lvp (kinds bitboards board : List ℕ) (state : Stated) (colour attacks occupied : ℕ) (found : Bool) (square kind : ℕ) (r : Code)
    (found' : Bool) (square' kind' : ℕ) : Type 0 where
  pub code : r ≡ answer_number (lvp_of kinds bitboards board (state_taken state) colour attacks occupied)
  pub lent : found' ≡ lent_after anyone found (lvp_of kinds bitboards board (state_taken state) colour attacks occupied)
  pub lent2 : square' ≡ lent_after square_or square (lvp_of kinds bitboards board (state_taken state) colour attacks occupied)
  pub lent3 : kind' ≡ lent_after kind_or kind (lvp_of kinds bitboards board (state_taken state) colour attacks occupied)

-- in a mode
abbrev pub SeeIn : Mode → List ℕ → List ℕ → List ℕ → Stated → ℕ → ℕ → ℤ → Code → ℤ → Type 0
SeeIn mode kinds bitboards board state from to worth r worth' = Door (see_of mode kinds bitboards board (state_taken state) from to) as_it_is worth r worth'

-- in the mode of a number
abbrev pub See : ℕ → List ℕ → List ℕ → List ℕ → Stated → ℕ → ℕ → ℤ → Code → ℤ → Type 0
See number kinds bitboards board state from to worth r worth' =
    Door (in_mode number (λ mode. see_of mode kinds bitboards board (state_taken state) from to)) as_it_is worth r worth'

-- ---- lines
-- what comes back by value, with the code: nothing is said of a position where there is a refusal
abbrev pub line_record : Answer (State × ℕ) → Read
line_record (given p) = record { code = code 0 []; state = state_told p.0; half = p.1 }
line_record (refused n v) = record { code = code n v; state = state_told (of_side white); half = 0 }

abbrev pub GivesLine : Result (State × ℕ) Refusal → Read → Type 0
GivesLine read r = r ≡ line_record (answered read)

-- whatever the line is said to be
pub record ReadsSaid (a : Answer Line) (bitboards board : List ℕ) (r : Read) (bitboards' board' : List ℕ) : Type 0 where
  pub said : r ≡ line_record (by_value a)
  pub boards : bitboards' ≡ bitboards_after a bitboards
  pub bytes : board' ≡ board_after a board

abbrev pub ReadsLine : List ℕ → List ℕ → List ℕ → Read → List ℕ → List ℕ → Type 0
ReadsLine line bitboards board r bitboards' board' = ReadsSaid (read_of line bitboards board) bitboards board r bitboards' board'

pub record GivesPart (line : List ℕ) (r : Part) : Type 0 where
  pub start : r.start ≡ start_of line
  pub length : r.length ≡ length (field_of line)
