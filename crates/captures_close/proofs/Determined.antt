-- The public function is determined by its promise: two answers, and two buffers, that it allows are equal. Assumes nothing.
use mathlib.Core.Path.{◌≡◌}
use mathlib.Core.List.{List}
use Prim.Native.Nat.{ℕ}
use Rattle.exchange_start.specs.declared.Mode.{Mode}
use Rattle.ledger_row.specs.declared.Row.{Row}
use Rattle.ledger_row.proofs.Determined.{puts_row}
use Rattle.captures_close.specs.Answered.{answer_rows, held_answer, AnswersHeld}

pub close : (mode : Mode) (old new new' : List ℕ) (at number : ℕ) (line : List ℕ) (size : ℕ) (r s : Row)
    → AnswersHeld mode old new at number line size r → AnswersHeld mode old new' at number line size s → (r ≡ s) × (new ≡ new')
close mode old new new' at number line size r s = puts_row old new new' at (held_answer mode line size) (answer_rows number (held_answer mode line size)) r s
