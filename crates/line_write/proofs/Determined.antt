-- The public function is determined by its promise: two results, and two contents of the lent buffer, that it allows are equal. Assumes nothing.
use mathlib.Core.Path.{◌≡◌}
use mathlib.Core.List.{List}
use Prim.Native.Nat.{ℕ}
use Rattle.refusal.proofs.Paper.{one, answered_same}
use Rattle.position.specs.declared.State.{State}
use Rattle.line_write.specs.Promises.{WritesLine}
use Rattle.std.specs.Prelude.{Result, Option}
use Rattle.refusal.specs.declared.Refusal.{Refusal}

pub write_line : (bitboards board : List ℕ) (state : State) (wanted : Option ℕ) (old : List ℕ) (r q : Result ℕ Refusal) (new new' : List ℕ)
    → WritesLine bitboards board state wanted old new r → WritesLine bitboards board state wanted old new' q → (r ≡ q) × (new ≡ new')
write_line bitboards board state wanted old r q new new' p o = (answered_same r q (one p.answer o.answer), one p.buffer o.buffer)
