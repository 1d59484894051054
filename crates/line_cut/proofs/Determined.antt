-- Each public function is determined by its promise: two results and buffers that it allows are equal. Assumes nothing.
use mathlib.Core.Path.{◌≡◌}
use mathlib.Core.List.{List}
use Prim.Native.Nat.{ℕ}
use Rattle.line_cut.specs.Promises.{EndsIn, CutsNext}
use Rattle.refusal.proofs.Paper.{one}
use Rattle.line_cut.specs.declared.Begun.{Begun}
use Rattle.line_cut.specs.declared.Cut.{Cut}

pub next : (begun : Begun) (line chunk : List ℕ) (from : ℕ) (r s : Cut) (line' line'' : List ℕ)
    → CutsNext begun line chunk from r line' → CutsNext begun line chunk from s line'' → (r ≡ s) × (line' ≡ line'')
next begun line chunk from r s line' line'' p q =
    let a = p.answer in
    let b = q.answer in
    let c = p.kept in
    let d = q.kept in
    (cc, cc)

pub ends : (chunk : List ℕ) (r s : ℕ) → EndsIn chunk r → EndsIn chunk s → r ≡ s
ends chunk r s p q = one p q
