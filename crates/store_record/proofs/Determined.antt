-- Each public function is determined by its promise: two results, and two contents of each lent memory, that it allows are equal.
-- Assumes nothing.
use mathlib.Core.Path.{◌≡◌}
use mathlib.Core.List.{List}
use Prim.Native.Nat.{ℕ}
use Rattle.refusal.specs.Answer.{Answer}
use Rattle.refusal.proofs.Paper.{one, answered_same}
use Rattle.position.specs.declared.State.{State}
use Rattle.line_parse.specs.Line.{Line}
use Rattle.line.specs.declared.inner.Loaded.{Loaded}
use Rattle.store_record.specs.Promises.{ReadsRecord, ReadsOver, SaysPiece, SaysStored, WritesRecord, Packs}
use Rattle.std.specs.Prelude.{Result}
use Rattle.refusal.specs.declared.Refusal.{Refusal}

loaded_one : (a : Answer Line) (r q : Loaded) → ReadsOver a r → ReadsOver a q → r ≡ q
loaded_one a r q p o =
    let x = answered_same r.answer q.answer (one p.answer o.answer) in
    let y = one p.boards o.boards in
    let z = one p.bytes o.bytes in
    λ i. record { answer = x i; bitboards = y i; board = z i }

-- ---- the functions
pub read_record : (run : List ℕ) (number : ℕ) (bitboards board : List ℕ) (r q : Result (State × ℕ) Refusal) (bitboards₁ board₁ bitboards₂ board₂ : List ℕ)
    → ReadsRecord run number bitboards board r bitboards₁ board₁ → ReadsRecord run number bitboards board q bitboards₂ board₂
    → (r ≡ q) × (bitboards₁ ≡ bitboards₂) × (board₁ ≡ board₂)
read_record run number bitboards board r q bitboards₁ board₁ bitboards₂ board₂ p o =
    (answered_same r q (one p.answer o.answer), one p.boards o.boards, one p.bytes o.bytes)

pub write_record : (bitboards board : List ℕ) (state : State) (half : ℕ) (place : List ℕ) (r q : Result Unit Refusal) (place₁ place₂ : List ℕ)
    → WritesRecord bitboards board state half place r place₁ → WritesRecord bitboards board state half place q place₂ → (r ≡ q) × (place₁ ≡ place₂)
write_record bitboards board state half place r q place₁ place₂ p o = (answered_same r q (one p.answer o.answer), one p.bytes o.bytes)

pub inner_read : (piece : List ℕ) (r q : Loaded) → SaysPiece piece r → SaysPiece piece q → r ≡ q
inner_read piece = loaded_one _

pub inner_read_at : (run : List ℕ) (number : ℕ) (r q : Loaded) → SaysStored run number r → SaysStored run number q → r ≡ q
inner_read_at run number = loaded_one _

pub inner_pack : (board : List ℕ) (side half : ℕ) (r q : List ℕ) → Packs board side half r → Packs board side half q → r ≡ q
inner_pack board side half r q = one
