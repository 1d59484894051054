-- Each public function is determined by its promise: two results that it allows are equal. Assumes nothing.
use mathlib.Core.Path.{◌≡◌}
use mathlib.Core.List.{List}
use Prim.Native.Nat.{ℕ}
use Rattle.refusal.proofs.Paper.{one, answered_same}
use Rattle.line_tail.specs.Promises.{ReadsTail, ReadsSquare}
use Rattle.std.specs.Prelude.{Result}
use Rattle.refusal.specs.declared.Refusal.{Refusal}
use Rattle.position.specs.declared.State.{State}

-- ---- the functions
pub read : (board : List ℕ) (side : ℕ) (s : List ℕ) (r q : Result State Refusal) → ReadsTail board side s r → ReadsTail board side s q → r ≡ q
read board side s r q p o = answered_same r q (one p o)

pub square : (file rank r q : ℕ) → ReadsSquare file rank r → ReadsSquare file rank q → r ≡ q
square file rank r q = one
