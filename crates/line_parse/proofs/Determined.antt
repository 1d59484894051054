-- The public function is determined by its promise: two results that it allows are equal. Assumes nothing.
use mathlib.Core.Path.{◌≡◌}
use mathlib.Core.List.{List}
use Prim.Native.Nat.{ℕ}
use Rattle.refusal.proofs.Paper.{one, answered_same}
use Rattle.line_parse.specs.Promises.{Parses}
use Rattle.line_parse.specs.declared.Parsed.{Parsed}

pub parse : (line : List ℕ) (r q : Parsed) → Parses line r → Parses line q → r ≡ q
parse line r q p o =
    let a = answered_same r.answer q.answer (one p.answer o.answer) in
    let b = one p.board o.board in
    λ i. record { answer = a i; board = b i }
