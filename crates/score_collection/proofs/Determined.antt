-- Each public function is determined by its promise: two results and buffers that it allows are equal. Assumes nothing.
use mathlib.Core.Path.{◌≡◌}
use mathlib.Core.Bool.{Bool}
use mathlib.Core.List.{List}
use Prim.Native.Nat.{ℕ}
use Rattle.refusal.proofs.Paper.{one, answered_one}
use Rattle.score_errors.specs.declared.Totals.{Totals}
use Rattle.score_collection.specs.Promises.{Begins, Gathers, EndsCollection, CountsLine, TakesPiece, Comes}
use Rattle.score_collection.specs.declared.Sum.{Sum}
use Rattle.score_collection.specs.declared.Gathered.{Gathered}
use Rattle.std.specs.Prelude.{Result}
use Rattle.refusal.specs.declared.Refusal.{Refusal}

pub begin : (r s : Gathered) → Begins r → Begins s → r ≡ s
begin r s = one

pub feed : (gathered : Gathered) (line chunk : List ℕ) (r s : Result Gathered Refusal) (line' line'' : List ℕ)
    → Gathers gathered line chunk r line' → Gathers gathered line chunk s line'' → (r ≡ s) × (line' ≡ line'')
feed gathered line chunk r s line' line'' p q = (answered_one p.answer q.answer, one p.kept q.kept)

pub end : (gathered : Gathered) (line : List ℕ) (r s : Result (Totals × ℕ) Refusal) → EndsCollection gathered line r → EndsCollection gathered line s → r ≡ s
end gathered line r s p q = answered_one p q

pub counted : (t : List ℕ) (sum : Sum) (line : List ℕ) (ended : Bool) (size : ℕ) (r s : Sum)
    → CountsLine t sum line ended size r → CountsLine t sum line ended size s → r ≡ s
counted t sum line ended size r s = one

pub take : (t : List ℕ) (gathered : Gathered) (line chunk : List ℕ) (r s : Gathered) (line' line'' : List ℕ)
    → TakesPiece t gathered line chunk r line' → TakesPiece t gathered line chunk s line'' → (r ≡ s) × (line' ≡ line'')
take t gathered line chunk r s line' line'' p q = (one p.answer q.answer, one p.kept q.kept)

pub outcome : (sum : Sum) (r s : Result (Totals × ℕ) Refusal) → Comes sum r → Comes sum s → r ≡ s
outcome sum r s p q = answered_one p q
