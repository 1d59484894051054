-- A number that is none of those below k is k or more: what the last arm of a match has learnt. Assumes nothing.
use mathlib.Core.Path.{◌≡◌, sym, ap, ◌∙◌}
use mathlib.Core.Bool.{Bool, cond, ◌&&◌, and-false}
use Prim.Native.Nat.{ℕ, zero, suc, ◌≤◌, zero-le}
use native.Mathlib.Omega.{arith}
use lib.Dec.{ltb}
use borrow.Author.Tests.{le-ltb}
use Rattle.chess.specs.Codes.{white_of}
use Rattle.score_pst.specs.Pst.{pst_of}
use Rattle.score_weights.specs.PrivatePacked.{lifted, fields, packed_at}

abbrev pub NoneBelow : ℕ → ℕ → Type 0
NoneBelow zero n = Unit {0}
NoneBelow (suc k) n = NoneBelow k n × (n ≡ k → ⊥)

-- what stands on the board
abbrev packed : ℕ → ℕ → ℕ
packed kind s = fields (lifted (pst_of (white_of kind) s 0)) (lifted (pst_of (white_of kind) s 1)) 1

pub past : (k n : ℕ) → NoneBelow k n → k ≤ n
past zero n h = zero-le
past (suc k) n h = let l : k ≤ n = past k n h.0 in let f : n ≡ k → ⊥ = h.1 in omega (arith, f)

pub off_board : (kind s : ℕ) → 64 ≤ s → 0 ≡ packed_at kind s
unfolding packed_at
off_board kind s h = sym (ap (λ (t : Bool). cond (ltb kind 6 && t) (packed kind s) 0) (le-ltb s 64 h)
    ∙ ap (λ (t : Bool). cond t (packed kind s) 0) (and-false (ltb kind 6)))

pub no_kind : (kind s : ℕ) → 6 ≤ kind → 0 ≡ packed_at kind s
unfolding packed_at
no_kind kind s h = sym (ap (λ (t : Bool). cond (t && ltb s 64) (packed kind s) 0) (le-ltb kind 6 h))
