-- Each public function is determined by its promise: two results, and two contents of each lent memory, that it allows are equal.
-- Assumes nothing.
use mathlib.Core.Path.{◌≡◌}
use mathlib.Core.List.{List}
use Prim.Native.Nat.{ℕ}
use Rattle.refusal.proofs.Paper.{one, answered_same}
use Rattle.line_profile.specs.Promises.{ReadsLineUnder, JudgesRead}
use Rattle.line_profile.specs.declared.Profile.{Profile}
use Rattle.std.specs.Prelude.{Result}
use Rattle.refusal.specs.declared.Refusal.{Refusal}
use Rattle.position.specs.declared.State.{State}

pub read_line : (profile : Profile) (line bitboards board : List ℕ) (r q : Result (State × ℕ) Refusal) (bitboards₁ board₁ bitboards₂ board₂ : List ℕ)
    → ReadsLineUnder profile line bitboards board r bitboards₁ board₁ → ReadsLineUnder profile line bitboards board q bitboards₂ board₂
    → (r ≡ q) × (bitboards₁ ≡ bitboards₂) × (board₁ ≡ board₂)
read_line profile line bitboards board r q bitboards₁ board₁ bitboards₂ board₂ p o =
    (answered_same r q (one p.answer o.answer), one p.boards o.boards, one p.bytes o.bytes)

pub inner_under : (profile : Profile) (bitboards : List ℕ) (answer r q : Result (State × ℕ) Refusal) → JudgesRead profile bitboards answer r
    → JudgesRead profile bitboards answer q → r ≡ q
inner_under profile bitboards answer r q p o = answered_same r q (one p o)
