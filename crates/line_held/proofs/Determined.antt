-- The public function is determined by its promise: two results that it allows are equal. Assumes nothing.
use mathlib.Core.Path.{◌≡◌}
use mathlib.Core.List.{List}
use Prim.Native.Nat.{ℕ}
use Rattle.refusal.proofs.Paper.{one, answered_same}
use Rattle.line.specs.declared.inner.Loaded.{Loaded}
use Rattle.line_held.specs.Held.{ReadsHeld}

pub read : (line : List ℕ) (size : ℕ) (r q : Loaded) → ReadsHeld line size r → ReadsHeld line size q → r ≡ q
read line size r q p o =
    let a = answered_same r.answer q.answer (one p.answer o.answer) in
    let b = one p.boards o.boards in
    let c = one p.bytes o.bytes in
    λ i. record { answer = a i; bitboards = b i; board = c i }
