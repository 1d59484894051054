-- How what a reader says passes its door. Assumes nothing.
use mathlib.Core.Path.{◌≡◌, sym, ap, ◌∙◌}
use mathlib.Core.List.{List, []}
use Prim.Native.Nat.{ℕ}
use Rattle.refusal.specs.Answer.{Answer, answered}
use Rattle.refusal.specs.declared.Refusal.{Refusal}
use Rattle.chess.specs.Named.{white}
use Rattle.position.specs.Checked.{of_side}
use Rattle.position.specs.declared.State.{State}
use Rattle.line_parse.specs.Line.{Line}
use Rattle.line.specs.Promises.{Reads}
use Rattle.abi_codes.specs.Codes.{code, refusal_code}
use Rattle.abi_codes.specs.declared.Code.{Code}
use Rattle.abi_states.specs.States.{state_told}
use Rattle.abi_states.specs.declared.State.{State as Stated}
use Rattle.abi.specs.Promises.{line_record, GivesLine, ReadsSaid}
use Rattle.abi.specs.declared.lines.Line.{Line as Told}
use Rattle.std.specs.Prelude.{Result, Ok, Err}

-- ---- by value
pub turned_line : {read : Result (State × ℕ) Refusal} {q : Refusal} → read ≡ Err q → (n : Code) → n ≡ refusal_code q → (s : State) → s ≡ of_side white → (t : Stated)
    → t ≡ state_told s
    → GivesLine read (record { code = n; state = t; half = 0 })
turned_line {q = q} m n h s o t g =
    (λ i. record { code = h i; state = (g ∙ ap state_told o) i; half = 0 }) ∙ ap (λ (x : Result (State × ℕ) Refusal). line_record (answered x)) (sym m)

pub told_line : {read : Result (State × ℕ) Refusal} {state : State} {half : ℕ} → read ≡ Ok (state, half) → (t : Stated) → t ≡ state_told state
    → GivesLine read (record { code = code 0 []; state = t; half = half })
told_line {half = half} m t g =
    (λ i. record { code = code 0 []; state = g i; half = half }) ∙ ap (λ (x : Result (State × ℕ) Refusal). line_record (answered x)) (sym m)

-- ---- and in lent memory
pub line_read : {a : Answer Line} {bitboards board : List ℕ} {x : Result (State × ℕ) Refusal} {r : Told} {bitboards' board' : List ℕ}
    → Reads a bitboards board x bitboards' board' → GivesLine x r → ReadsSaid a bitboards board r bitboards' board'
line_read p g = record { said = g ∙ ap line_record p.answer; boards = p.boards; bytes = p.bytes }
