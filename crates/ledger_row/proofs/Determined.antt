-- Each public function is determined by its promise: two results, and two buffers, that it allows are equal. Assumes nothing.
use mathlib.Core.Path.{◌≡◌}
use mathlib.Core.List.{List}
use Prim.Native.Nat.{ℕ}
use Rattle.refusal.specs.Answer.{Answer, answered}
use Rattle.refusal.specs.Refusals.{number_of}
use Rattle.refusal.specs.declared.Refusal.{Refusal}
use Rattle.refusal.proofs.Paper.{one}
use Rattle.text_out.proofs.Determined.{put}
use Rattle.ledger_row.specs.Row.{said_row, refused_row}
use Rattle.ledger_row.specs.Promises.{PutsRow, PutsSaid, PutsRefused}
use Rattle.ledger_row.specs.declared.Row.{Row}
use Rattle.std.specs.Prelude.{Result, Option}
use Rattle.position.specs.declared.State.{State}

-- whatever the text that is put, and whatever was said
pub puts_row : {A : Type 0} (old new new' : List ℕ) (at : ℕ) (said : Answer A) (text : List ℕ) (r s : Row)
    → PutsRow old new at said text r → PutsRow old new' at said text s → (r ≡ s) × (new ≡ new')
puts_row old new new' at said text r s p q =
    let e = put old new new' at text r.placed s.placed p.puts q.puts in
    let f = one p.loaded q.loaded in
    (λ i. record { placed = e.0 i; loaded = f i }, e.1)

pub inner_row : (old new new' : List ℕ) (at number : ℕ) (read : Result (State × ℕ) Refusal) (bitboards : List ℕ) (r s : Row)
    → PutsSaid old new at number read bitboards r → PutsSaid old new' at number read bitboards s → (r ≡ s) × (new ≡ new')
inner_row old new new' at number read bitboards r s = puts_row old new new' at (answered read) (said_row number bitboards (answered read)) r s

pub inner_refused : (old new new' : List ℕ) (at number : ℕ) (refusal : Refusal) (r s : Option ℕ)
    → PutsRefused old new at number refusal r → PutsRefused old new' at number refusal s → (r ≡ s) × (new ≡ new')
inner_refused old new new' at number refusal r s = put old new new' at (refused_row number (number_of refusal)) r s
