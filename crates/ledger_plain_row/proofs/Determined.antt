-- Each public function is determined by its promise: two answers that it allows are equal. Assumes nothing.
use mathlib.Core.Path.{◌≡◌}
use mathlib.Core.List.{List}
use Prim.Native.Nat.{ℕ}
use Rattle.refusal.proofs.Paper.{one}
use Rattle.ledger_plain_row.specs.Promises.{TellsRow}
use Rattle.ledger_plain_row.specs.declared.PlainRow.{PlainRow}

pub tell : (number : ℕ) (s : List ℕ) (r t : PlainRow) → TellsRow number s r → TellsRow number s t → r ≡ t
tell number s r t p q = one p q
